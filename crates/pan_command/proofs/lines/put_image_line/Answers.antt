use Rattle.pan_command.proofs.lines.put_image_line.Goals as goal

pub returns-in-Field-clause-took : goal.returns-in-Field-clause-took
returns-in-Field-clause-took g c = rw (c.in-Field.is, ← c.name_of_field.ensures) c.put_line.ensures.took

pub returns-in-BadName-clause-took : goal.returns-in-BadName-clause-took
returns-in-BadName-clause-took g c = rw (c.in-BadName.is, ← c.format.ensures.text) c.put_line-in-BadName.ensures.took

pub returns-in-Padding-clause-took : goal.returns-in-Padding-clause-took
returns-in-Padding-clause-took g c = rw c.in-Padding.is c.put_all-in-Padding.ensures.took

pub returns-in-Tail-clause-took : goal.returns-in-Tail-clause-took
returns-in-Tail-clause-took g c = rw c.in-Tail.is c.put_all-in-Tail.ensures.took
