use Rattle.std.proofs.Common.{◌≡◌, inl, inr, Result, Ok, Err}
use Rattle.std.specs.Prelude.{◌⊎◌}
use Rattle.command_words.specs.declared.error.WordsError.{WordsError}
use Rattle.command_words.specs.declared.order.Order.{Order}
use Rattle.pan_command.proofs.command.act.Goals as goal

the_order : (order other : Order) (e : WordsError) → (let r : Result Order WordsError = Ok order in (r ≡ Ok other) ⊎ (r ≡ Err e)) → other ≡ order
the_order order other e h = elim h [ inl x ↦ cc | inr x ↦ cc ]

pub returns-in-Ok : goal.returns-in-Ok
returns-in-Ok g c = inl (record {
  order = c.in-Ok.order;
  given = c.in-Ok.ensures.asked;
  only = λ other asks. the_order c.in-Ok.order other _ (c.in-Ok.ensures.exact other asks);
  ends = c.perform.ensures;
})
