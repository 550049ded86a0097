use Rattle.std.proofs.Common.{◌≡◌, ◌+◌, drop, take, refl, ap, ◌∙◌}
use Rattle.std.proofs.lemmas.List.{drop-drop, take_rest}
use Rattle.image_file.specs.declared.header.Header.{Header}
use Rattle.image_file.specs.Fields.{padding, size}
use Rattle.image_file.proofs.reading.parts_of.Goals as goal

pub returns : goal.returns
returns c =
    let bytes = c.args.bytes.now in
    let n = c.args.header.now.names_len in
    let rest : c.split_at.result.1.now ≡ drop (32 + n) bytes = c.split_at.ensures.back ∙ ap (drop n) (take_rest bytes 32) ∙ drop-drop n 32 bytes in
    let behind : c.split_at-2.result.1.now ≡ drop (32 + n + padding n) bytes =
    c.split_at-2.ensures.back ∙ rw (c.padding_of.ensures, rest) (drop-drop (padding n) (32 + n) bytes) in
    let last : c.split_at-3.result.1.now ≡ drop (size c.args.header.now) bytes =
    c.split_at-3.ensures.back ∙ rw behind (drop-drop c.args.header.now.code_len (32 + n + padding n) bytes) in
    record {
      names_are = c.split_at.ensures.front ∙ ap (take n) (take_rest bytes 32) ∙ ap (λ (h : Header). take h.names_len (drop 32 bytes)) c.requires.header;
      padding_is = c.split_at-2.ensures.front ∙ rw (c.padding_of.ensures, rest) refl ∙ ap (λ (h : Header). take (padding h.names_len) (drop (32 + h.names_len) bytes)) c.requires.header;
      code_is = c.split_at-3.ensures.front ∙ ap (take c.args.header.now.code_len) behind ∙ ap (λ (h : Header). take h.code_len (drop (32 + h.names_len + padding h.names_len) bytes)) c.requires.header;
      tail_is = last ∙ ap (λ (h : Header). drop (size h) bytes) c.requires.header;
    }
