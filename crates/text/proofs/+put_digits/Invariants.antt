-- `text::put_digits` meets its contract: the digits before the last, and then the last. The number falls.
use Rattle.text.proofs.+put_digits.Given as goal

abbrev pub decreases-put_digits : goal.decreases-put_digits
decreases-put_digits l = l.n
