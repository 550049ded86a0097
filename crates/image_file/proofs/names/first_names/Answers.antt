use Rattle.std.proofs.Common.{◌≡◌, [], ◌∷◌, ◌++◌, Some, None, not, ◌&&◌, true, false, refl, sym, ap, inr, ◌∙◌}
use Rattle.std.specs.List.{list_any}
use Rattle.std.specs.Str.{bytes_eq}
use Rattle.std.proofs.lemmas.Bool.{and_left, and_right, and_from}
use Rattle.pan_base.specs.Names.{is_short_foreign_name}
use Rattle.image_file.specs.Fields.{front_name}
use Rattle.image_file.proofs.NamesRead.{HasRead-start, HasSeen-start, HasSeen-push, ends_short, ends_unlawful, goes_on}
use Rattle.image_file.proofs.names.first_names.Goals as goal
use Rattle.image_file.proofs.names.first_names.Goals.{then-not-is_lawful-via-then-not-is_lawful, then-not-is_lawful-via-else-not-is_lawful+in_ok-insert+then-not-branch}

pub names-init : goal.names-init
names-init c =
    rw c.new-names.ensures (record { read = HasRead-start c.args.part.now c.args.count; seen = HasSeen-start c.new-seen.result c.new-seen.ensures.empty })

pub returns-in_default-clause-fault : goal.returns-in_default-clause-fault
returns-in_default-clause-fault c =
    let short : front_name c.names.rest.now ≡ None = rw (← c.front_of.ensures, c.in_default.is) refl in
    inr (ends_short c.args.part.now c.args.count c.names.i c.names.names c.names.rest.now c.names.invariant.read c.names-test.true short)

pub returns-then-not-is_lawful-clause-fault : goal.returns-then-not-is_lawful-clause-fault
returns-then-not-is_lawful-clause-fault c =
    let next : front_name c.names.rest.now ≡ Some (c.in-Some.name.now, c.in-Some.after.now) = sym c.in-Some.ensures in
    let unlawful : (is_short_foreign_name c.in-Some.name.now && not (list_any (λ other. bytes_eq other c.in-Some.name.now) c.names.names)) ≡ false =
    elim c.then-not-is_lawful.branch [
      | then-not-is_lawful-via-then-not-is_lawful w ↦ and_left _ _ (sym c.is_lawful.ensures ∙ w.if-not-is_lawful.true)
      | then-not-is_lawful-via-else-not-is_lawful+in_ok-insert+then-not-branch w ↦ and_right _ _ (ap not (sym (c.names.invariant.seen.same c.in-Some.name)) ∙ sym w.in_ok-insert.ensures.added ∙ w.if-not-branch.true)
    ] in
    inr (ends_unlawful c.args.part.now c.args.count c.names.i c.names.names c.names.rest.now c.in-Some.name.now c.in-Some.after.now c.names.invariant.read c.names-test.true next unlawful)

pub names-preserved : goal.names-preserved
names-preserved c =
    let next : front_name c.names.rest.now ≡ Some (c.in-Some.name.now, c.in-Some.after.now) = sym c.in-Some.ensures in
    let apart : not (list_any (λ other. bytes_eq other c.in-Some.name.now) c.names.names) ≡ true =
    ap not (sym (c.names.invariant.seen.same c.in-Some.name)) ∙ sym c.in_ok-insert.ensures.added ∙ c.if-not-branch.false in
    let lawful = and_from (is_short_foreign_name c.in-Some.name.now) (not (list_any (λ other. bytes_eq other c.in-Some.name.now) c.names.names)) (sym c.is_lawful.ensures ∙ c.if-not-is_lawful.false) apart in
    let more : c.push.new.self ≡ c.names.names ++ c.in-Some.name.now ∷ [] = rw (c.in_ok-push.ensures.ok, c.in_ok-from_slice.ensures) refl in
    rw more (record {
      read = goes_on c.args.part.now c.args.count c.names.i c.names.names c.names.rest.now c.in-Some.name.now c.in-Some.after.now c.names.invariant.read c.names-test.true next lawful;
      seen = HasSeen-push c.names.seen c.insert.new.self c.names.names c.in-Some.name c.names.invariant.seen c.in_ok-insert.ensures.updates;
    })
