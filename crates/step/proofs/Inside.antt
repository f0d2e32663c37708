-- A step that waits, in its context: what it waits for, and what an answer to it does, are its own.
use Prim.Native.Nat.{ℕ}
use mathlib.Core.Path.{◌≡◌, refl, ap, sym, ◌∙◌}
use mathlib.Core.Bool.{true}
use mathlib.Core.List.{List}
use Rattle.tape.specs.declared.progress.Line.{Line}
use Rattle.tape.specs.Plan.{Plan}
use Rattle.step.specs.Next.{Next, asks, tells, over, refused, next, heard, told, missed, want_of, waits, line_after, filled_in}
use Rattle.step.specs.Context.{Context, plug, plug_next, next_plug, wants_plug, heard_plug, missed_plug, told_plug, line_plug}
use Rattle.step.specs.Command.{command_plan, command_next}
use Rattle.step.specs.declared.command.Command.{Command}
use Rattle.step.specs.declared.why.Step.{Step}
use Rattle.step.proofs.Parts as parts
use Rattle.step.specs.declared.command.Words.{Words}

-- two plans with the same ahead of them have the same ahead of them in a context
pub same-plug : {B A : Type 0} (k : Context B A) (p q : Plan A) (h : Line) → next p h ≡ next q h → next (plug k p) h ≡ next (plug k q) h
same-plug k p q h e = next_plug k p h ∙ ap (plug_next k) e ∙ sym (next_plug k q h)

plug-waits : {B A : Type 0} (k : Context B A) (x : Next A) → waits x ≡ true → waits (plug_next k x) ≡ true
unfolding plug_next waits
plug-waits k (asks h r f z) e = refl
plug-waits k (tells h r p) e = refl
plug-waits k (over h a) e = cc
plug-waits k (refused h c) e = cc

module _ {B A : Type 0} (k : Context B A) (p : Plan A) (h : Line) (waiting : waits (next p h) ≡ true) where
  pub inside_wants : want_of (next p h) ≡ want_of (next (plug k p) h)
  inside_wants = sym (ap want_of (next_plug k p h) ∙ wants_plug k (next p h) waiting)

  pub inside-heard : (w : ℕ) → plug_next k (heard (next p h) w) ≡ heard (next (plug k p) h) w
  inside-heard w = sym (ap (λ (x : Next B). heard x w) (next_plug k p h) ∙ heard_plug k (next p h) w waiting)

  pub inside-missed : plug_next k (missed (next p h)) ≡ missed (next (plug k p) h)
  inside-missed = sym (ap missed (next_plug k p h) ∙ missed_plug k (next p h) waiting)

  pub inside-told : plug_next k (told (next p h)) ≡ told (next (plug k p) h)
  inside-told = sym (ap told (next_plug k p h) ∙ told_plug k (next p h) waiting)

  pub inside-line : line_after (next (plug k p) h) ≡ line_after (next p h)
  inside-line = ap line_after (next_plug k p h) ∙ line_plug k (next p h) waiting

  pub inside-waits : waits (next (plug k p) h) ≡ true
  inside-waits = ap waits (next_plug k p h) ∙ plug-waits k (next p h) waiting

pub command-waits : (c : Command) (h : Line) → waits (next (command_plan c) h) ≡ true
command-waits c h = parts.part-waits c.limit c.index c.argument c.response c.gate h c.part

-- a row changes nothing of the clock's gate
command-gated : (c : Command) (h : Line) → (line_after (next (command_plan c) h)).gated ≡ h.gated
command-gated c h = parts.part-gated c.limit c.index c.argument c.response c.gate h c.part

-- a command in its context, after its row
pub command-goes : {B : Type 0} (k : Context B (List ℕ)) (c : Command) (s : Step Command Words) (h : Line)
    → command_next s (line_after (next (command_plan c) h)) ≡ told (next (command_plan c) h)
    → plug_next k (command_next s (line_after (next (plug k (command_plan c)) h))) ≡ told (next (plug k (command_plan c)) h)
command-goes k c s h e =
    ap (λ (l : Line). plug_next k (command_next s l)) (inside-line k (command_plan c) h (command-waits c h))
    ∙ ap (plug_next k) e ∙ inside-told k (command_plan c) h (command-waits c h)

pub command_gate : {B : Type 0} (k : Context B (List ℕ)) (c : Command) (h : Line) → (line_after (next (plug k (command_plan c)) h)).gated ≡ h.gated
command_gate k c h = ap (λ (l : Line). l.gated) (inside-line k (command_plan c) h (command-waits c h)) ∙ command-gated c h

-- what a plan waits for names no word by its place
pub filled_want : {A : Type 0} (sent : List ℕ) (x : Next A) → filled_in sent (want_of x) ≡ want_of x
unfolding filled_in want_of
filled_want sent (asks h r k z) = refl
filled_want sent (tells h r p) = refl
filled_want sent (over h a) = refl
filled_want sent (refused h c) = refl
