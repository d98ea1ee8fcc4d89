-- The row number falls at each call. Assumes nothing.
use Rattle.routes.proofs.+follow.Given as goal

abbrev pub decreases-follow : goal.decreases-follow
decreases-follow l = l.row
