use Rattle.std.proofs.Common.{length}
use Rattle.code_listing.proofs.line.+significant.Given as goal

abbrev pub decreases-significant : goal.decreases-significant
decreases-significant l = length l.digits.now
