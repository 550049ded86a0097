use Rattle.std.proofs.Common.{◌≡◌, false, sym, ap, ◌∙◌}
use Rattle.std.specs.List.{list_any}
use Rattle.std.specs.Str.{bytes_eq}
use Rattle.pan_tree.specs.declared.program.Param.{Param}
use Rattle.pan_tree.specs.Check.{with_name}
use Rattle.pan_shapes.proofs.HeadLemmas.{twin_found, names_more, still_apart}
use Rattle.pan_shapes.proofs.heads.has_twins.Goals as goal

pub returns-then-contains : goal.returns-then-contains
returns-then-contains c =
    twin_found c.args.params.now c.loop-param.param-index c.param-item.result c.loop-param.names c.loop-param-test.true c.param-item.is c.loop-param.invariant.names
    (ap (λ q. list_any (λ y. bytes_eq y q) c.loop-param.names) (sym c.as_bytes-name.ensures) ∙ sym c.contains.ensures ∙ c.if-contains.true)

pub loop-param-preserved : goal.loop-param-preserved
loop-param-preserved c =
    let name = λ (p : Param). p.name in
    let unknown : list_any (λ y. bytes_eq y c.param-item.result.name) c.loop-param.names ≡ false =
    ap (λ q. list_any (λ y. bytes_eq y q) c.loop-param.names) (sym c.as_bytes-name.ensures) ∙ sym c.contains.ensures ∙ c.if-contains.false in
    let added : c.add.new.self ≡ with_name c.param-item.result.name c.loop-param.names = c.in_ok-add.ensures ∙ ap (λ q. with_name q c.loop-param.names) c.as_bytes-name.ensures in
    record {
      names = names_more name c.args.params.now c.loop-param.param-index c.param-item.result c.loop-param.names c.add.new.self c.loop-param-test.true c.param-item.is c.loop-param.invariant.names added unknown;
      apart = still_apart c.loop-param.names c.add.new.self c.param-item.result.name added unknown c.loop-param.invariant.apart;
    }
