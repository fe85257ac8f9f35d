-- `straight` and `flipped` call each other at a lower order.
use Rattle.words.proofs.halving.+flipped_straight.Given as goal

abbrev pub decreases-flipped : goal.decreases-flipped
decreases-flipped l = l.q

abbrev pub decreases-straight : goal.decreases-straight
decreases-straight l = l.q
