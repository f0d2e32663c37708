use Rattle.std.proofs.Common.{◌≡◌, ◌≤◌, length, drop}
use Rattle.wordtext.specs.Text.{scan, read_of, state_of}
use Rattle.wordtext.proofs.scan.scan_text.Given as goal

abbrev pub invariant-loop-i : goal.invariant-loop-i
invariant-loop-i l = (scan (length l.initial.words) l.i (state_of l.s l.words) (drop l.i l.text) ≡ read_of (length l.initial.words) l.text)
    × (drop l.s.count l.words ≡ drop l.s.count l.initial.words)
    × (length l.words ≡ length l.initial.words)
    × (l.s.count ≤ length l.initial.words)
