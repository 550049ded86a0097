use Rattle.image_file.proofs.NamesRead.{HasRead, HasSeen}
use Rattle.image_file.proofs.names.first_names.Given as goal

abbrev pub invariant-names : goal.invariant-names
invariant-names l = record { read : HasRead l.part l.count l.i l.names l.rest; seen : HasSeen l.seen l.names }
