-- The measure is the number of digits.
use Rattle.text.proofs.pen.Pen.+put_hex.Given as goal

abbrev pub decreases-put_hex : goal.decreases-put_hex
decreases-put_hex l = l.digits
