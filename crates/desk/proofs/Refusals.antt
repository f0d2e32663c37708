-- The lines of refusals: each fits the buffer that it is laid in.
use Prim.Native.Nat.{ℕ, ◌+◌, ◌-◌, ◌≤◌}
use mathlib.Core.List.{List, []}
use mathlib.Core.Path.{◌≡◌, refl, sym}
use native.Mathlib.Omega.{arith}
use lib.ListN.{length, take, drop}
use lib.Seq.{take_all, take_at}
use Rattle.text.specs.Ink.{Laid, inked, next}
use Rattle.text.proofs.Ink.{ink_nil, next_nil}
use Rattle.desk.specs.declared.room.ArgumentError.{ArgumentError}
use Rattle.desk.specs.declared.room.ArgumentError.TheVariants.{TooMany, NoRoom}
use Rattle.desk.specs.declared.room.Program.{Program}
use Rattle.desk.specs.declared.room.Program.TheVariants.{Cardtrace, Cardpile, Cardsteps}
use Rattle.desk.specs.Refusal.{refusal_text}

-- a text that fits is laid in whole
pub whole : {text before after : List ℕ} {place : ℕ} → Laid 0 text before place after → length text ≤ length before → take place after ≡ text
unfolding inked next
whole {text} {before} {after} {place} laid h =
    let same : place ≡ length text = omega (arith, laid.placed, h) in
    let all : take (length before - 0) text ≡ text = take_all (length before - 0) text (omega (arith, h)) in
    rw (same, laid.laid, all) (take_at text (drop (0 + length text) before) (length text) refl)

-- no text is laid in by leaving all as it is
pub nothing : (buffer : List ℕ) → Laid 0 [] buffer 0 buffer
nothing buffer = record { placed = rw next_nil (omega arith); laid = sym (ink_nil 0 buffer) }

pub fits : (program : Program) (error : ArgumentError) → length (refusal_text program error) ≤ 64
unfolding refusal_text
fits Cardtrace TooMany = omega arith
fits Cardtrace NoRoom = omega arith
fits Cardpile TooMany = omega arith
fits Cardpile NoRoom = omega arith
fits Cardsteps TooMany = omega arith
fits Cardsteps NoRoom = omega arith

-- so the line is laid in whole
pub said : (program : Program) (error : ArgumentError) {before after : List ℕ} {place : ℕ} → 64 ≤ length before → Laid 0 (refusal_text program error) before place after
    → (take place after ≡ refusal_text program error) × Laid 0 (refusal_text program error) before place after
said program error room laid = (whole laid (omega (arith, fits program error)), laid)
