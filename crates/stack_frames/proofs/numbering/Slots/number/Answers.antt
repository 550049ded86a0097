use Rattle.stack_frames.proofs.Numbers.{place_is_number}
use Rattle.stack_frames.proofs.numbering.Slots.number.Goals as goal

pub returns : goal.returns
returns c =
    place_is_number c.args.self.now.homes c.as_slice.result.now c.args.home c.in-Ok.place c.binary_search.result c.args.self.now.rising c.as_slice.ensures c.binary_search.ensures.position c.in-Ok.is
