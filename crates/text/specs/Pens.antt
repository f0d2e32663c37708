-- What a pen wrote.
use Rattle.std.specs.Prelude.{ℕ, ◌-◌, ◌≤◌, List, length}
use native.Mathlib.Omega.{arith}
use lib.ListN.{length-append, length-take, length-drop}
use Rattle.text.specs.Ink.{inked, next}
use Rattle.text.specs.declared.pen.Pen.{Pen}

-- where it stands then is in the buffer
pub next_within : (at : ℕ) (text buffer : List ℕ) → next at text buffer ≤ length (inked at text buffer)
unfolding inked next
next_within at text buffer =
    rw (length-append, length-append, length-take at buffer, length-take (length buffer - at) text, length-drop) (omega arith)

-- the pen that wrote a text: it holds the buffer that it held, with the text laid in from where it stood, and stands behind it
unfoldable pub written : List ℕ → Pen → Pen
written text pen = record {
  out = record pen.out { now = inked pen.at text pen.out.now };
  at = next pen.at text pen.out.now;
  within = next_within pen.at text pen.out.now;
}
