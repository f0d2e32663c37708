-- What is seen where a run of a plan ends, of the words that it took and of the command that it sent last; and so of a command:
-- what it gives are the four words taken last.
use Prim.Native.Nat.{ℕ, zero, suc, ◌+◌, ◌*◌, ◌-◌, ◌/◌, ◌%◌, ◌^◌, ◌≤◌, ◌<◌}
use mathlib.Core.Bool.{Bool, true, false, cond, not}
use mathlib.Core.List.{List}
use mathlib.Core.Path.{◌≡◌, refl, sym, ◌∙◌}
use native.Mathlib.Omega.{arith}
use lib.Dec.{ltb}
use lib.ListN.{length, get_or, set}
use lib.Seq.{get_or-set_same, get_or-set_other}
use borrow.Author.Tests.{eq-eqb, ltb-true, ltb-false}
use Rattle.types.specs.declared.error.Error.{Error}
use Rattle.types.specs.declared.error.Error.TheVariants as E
use Rattle.types.specs.declared.error.Field.TheVariants.{AppCommand}
use Rattle.types.specs.Answer.{error_told}
use Rattle.types.specs.Bits.{clear}
use Rattle.types.specs.Words.{counted}
use Rattle.tape.specs.declared.progress.Halt.TheVariants.{Refused}
use Rattle.tape.specs.declared.progress.Line.{Line}
use Rattle.tape.specs.Pace.{Stopped}
use Rattle.tape.specs.declared.rows.Row.{Row}
use Rattle.tape.specs.declared.script.Reading.{Reading}
use Rattle.tape.specs.Layout.{row_of}
use Rattle.tape.specs.Plan.{Nothing, Cause, failed, ended, Plan, give, refuse, read, write, look, hold, handle, ◌then◌, fail, ensure, until}
use Rattle.tape.specs.Rows.{CMD, cmd_of}
use Rattle.tape.specs.Run.{After, noted, run}
use Rattle.tape.specs.Steps.{word, row, set_clken}
use Rattle.tape.proofs.Walk.{Rule, obeys, Obeys}
use Rattle.bus.specs.declared.response.Form.{Form}
use Rattle.bus.specs.declared.response.Response.{Response}
use Rattle.bus.specs.declared.response.Response.TheVariants.{None, R1, R2, R3, R6, R7}
use Rattle.bus.specs.Command.{form_of, first_of, issue, poll_completion, wait_completion, echo, response_words, judge, answer, complete, command_inner, command, app_command}
use Rattle.bus.specs.Sent.{sent_after, last_sent, answer_at}
use Rattle.bus.proofs.Walks.{unequal, Other, idle-obeys}

-- The command sent last, as a list of rows grows.

sent-before : (n : ℕ) (l : List Row) (k : ℕ) (r : Row) → n ≤ k → last_sent n (set l k r) ≡ last_sent n l
unfolding last_sent
sent-before zero l k r h = refl
sent-before (suc n) l k r h =
    rw (get_or-set_other l k n r (row_of 0) (λ e. omega arith), sent-before n l k r (omega arith))

sent_now : (n : ℕ) (l : List Row) (r : Row) → n < length l → last_sent (n + 1) (set l n r) ≡ sent_after r (last_sent n l)
unfolding last_sent
sent_now n l r h =
    let next : n + 1 ≡ suc n = omega arith in
    rw (next, get_or-set_same l n r (row_of 0) h, sent-before n l n r (omega arith))

pub opposite : {b : Bool} → not b ≡ false → b ≡ true
opposite {b = true} e = refl
opposite {b = false} e = absurd (unequal e)

never : {X : Type 0} → ◌≡◌ {A = Bool} false true → X
never e = absurd (unequal (sym e))

-- of either way
either : {X : Type 0} (P : X → Type 0) (b : Bool) (x y : X) → (b ≡ true → P x) → (b ≡ false → P y) → P (cond b x y)
either P true x y e e' = e refl
either P false x y e e' = e' refl

module _ (s : List ℕ) where
  -- on the script s, from u words taken and c sent last: R where the plan is refused, Q where it gives; nothing is asked where the
  -- script has ended
  unfoldable pub shows : {A : Type 0} → (ℕ → ℕ → Error → Type 0) → (ℕ → ℕ → A → Type 0) → ℕ → ℕ → Plan A → Type 0
  shows R Q u c (give a) = Q u c a
  shows R Q u c (refuse (failed e)) = R u c e
  shows R Q u c (refuse ended) = Unit {0}
  shows R Q u c (read r k z) = (u < length s → shows R Q (u + 1) c (k (get_or s u 0))) × (length s ≤ u → shows R Q u c z)
  shows R Q u c (write r p) = shows R Q u (sent_after r c) p
  shows R Q u c (look k) = (h : Line) → shows R Q u c (k h)
  shows R Q u c (hold h p) = shows R Q u c p

  -- a run that is refused shows it
  pub record Shows (R : ℕ → ℕ → Error → Type 0) {A : Type 0} (x : After A) : Type 0 where
    pub refused : (e : Error) → x.state.progress.pace ≡ Stopped (Refused e)
        → R x.state.progress.used (last_sent x.state.progress.rows x.state.list) e

  module _ (R : ℕ → ℕ → Error → Type 0) where
    other-end : {A : Type 0} {x : After A} → ((e : Error) → x.state.progress.pace ≡ Stopped (Refused e) → ⊥) → Shows R x
    other-end none = record { refused = λ e g. absurd (none e g) }

    pub run-shows : {A : Type 0} (Q : ℕ → ℕ → A → Type 0) (d : A) (p : Plan A) (u n : ℕ) (h : Line) (l : List Row)
        → shows R Q u (last_sent n l) p → Shows R (run s d p u n h l)
    unfolding shows run
    run-shows Q d (give a) u n h l b = other-end (λ e g. let z : ◌≡◌ {A = ℕ} 0 1 = cc in omega arith)
    run-shows Q d (refuse (failed x)) u n h l b = record { refused = λ e g. let same : x ≡ e = cc in rw (← same) b }
    run-shows Q d (refuse ended) u n h l b = other-end (λ e g. let z : ◌≡◌ {A = ℕ} 0 1 = cc in omega arith)
    run-shows Q d (read r k z) u n h l b =
        either (Shows R) (ltb u (length s)) _ _ (λ t. run-shows Q d (k (get_or s u 0)) (u + 1) n h l (b.0 (ltb-true u (length s) t)))
        (λ t. run-shows Q d z u n h l (b.1 (ltb-false u (length s) t)))
    run-shows Q d (write r p) u n h l b =
        either (Shows R) (ltb n (length l)) _ _
        (λ t. run-shows Q d p u (n + 1) (noted r h) (set l n r) (rw (sent_now n l r (ltb-true n (length l) t)) b))
        (λ t. other-end (λ e g. let z : ◌≡◌ {A = ℕ} 0 1 = cc in omega arith))
    run-shows Q d (look k) u n h l b = run-shows Q d (k h) u n h l (b h)
    run-shows Q d (hold h' p) u n h l b = run-shows Q d p u n h' l b

  -- the same, to be joined by the laws below
  pub record Tells (R : ℕ → ℕ → Error → Type 0) (A : Type 0) (Q : ℕ → ℕ → A → Type 0) (u c : ℕ) (p : Plan A) : Type 0 where
    pub each : shows R Q u c p

  module _ {R : ℕ → ℕ → Error → Type 0} where
    module _ {A B : Type 0} {Q : ℕ → ℕ → A → Type 0} {Q' : ℕ → ℕ → B → Type 0} (f : A → Plan B) (g : Cause → Plan B)
        (v : (u c : ℕ) (a : A) → Q u c a → Tells R B Q' u c (f a)) (x : (u c : ℕ) (e : Error) → R u c e → Tells R B Q' u c (g (failed e)))
        (y : (u c : ℕ) → Tells R B Q' u c (g ended)) where
      joined : (p : Plan A) (u c : ℕ) → shows R Q u c p → shows R Q' u c (handle f g p)
      unfolding shows handle
      joined (give a) u c b = (v u c a b).each
      joined (refuse (failed e)) u c b = (x u c e b).each
      joined (refuse ended) u c b = (y u c).each
      joined (read r k z) u c b = (λ t. joined (k (get_or s u 0)) (u + 1) c (b.0 t), λ t. joined z u c (b.1 t))
      joined (write r p) u c b = joined p u (sent_after r c) b
      joined (look k) u c b = λ h. joined (k h) u c (b h)
      joined (hold h p) u c b = joined p u c b

    pub tells-handle : {A B : Type 0} {Q : ℕ → ℕ → A → Type 0} {Q' : ℕ → ℕ → B → Type 0} {u c : ℕ} {p : Plan A} (f : A → Plan B) (g : Cause → Plan B)
        → Tells R A Q u c p → ((u c : ℕ) (a : A) → Q u c a → Tells R B Q' u c (f a)) → ((u c : ℕ) (e : Error) → R u c e → Tells R B Q' u c (g (failed e)))
        → ((u c : ℕ) → Tells R B Q' u c (g ended)) → Tells R B Q' u c (handle f g p)
    tells-handle {u = u} {c = c} {p = p} f g b v x y = record { each = joined f g v x y p u c b.each }

    pub tells-give : {A : Type 0} {Q : ℕ → ℕ → A → Type 0} {u c : ℕ} {a : A} → Q u c a → Tells R A Q u c (give a)
    unfolding shows
    tells-give q = record { each = q }

    pub tells-fail : {A : Type 0} {Q : ℕ → ℕ → A → Type 0} {u c : ℕ} {e : Error} → R u c e → Tells R A Q u c (fail e)
    unfolding shows
    tells-fail r = record { each = r }

    pub tells-end : {A : Type 0} {Q : ℕ → ℕ → A → Type 0} {u c : ℕ} → Tells R A Q u c (refuse ended)
    unfolding shows
    tells-end = record { each = tt }

    pub tells_then : {A B : Type 0} {Q : ℕ → ℕ → A → Type 0} {Q' : ℕ → ℕ → B → Type 0} {u c : ℕ} {p : Plan A} {f : A → Plan B}
        → Tells R A Q u c p → ((u c : ℕ) (a : A) → Q u c a → Tells R B Q' u c (f a)) → Tells R B Q' u c (p then f)
    tells_then {f = f} b v = tells-handle f refuse b v (λ u c e r. tells-fail r) (λ u c. tells-end)

    pub tells-look : {A : Type 0} {Q : ℕ → ℕ → A → Type 0} {u c : ℕ} {k : Line → Plan A} → ((h : Line) → Tells R A Q u c (k h)) → Tells R A Q u c (look k)
    unfolding shows
    tells-look b = record { each = λ h. (b h).each }

    pub tells-hold : {A : Type 0} {Q : ℕ → ℕ → A → Type 0} {u c : ℕ} {h : Line} {p : Plan A} → Tells R A Q u c p → Tells R A Q u c (hold h p)
    unfolding shows
    tells-hold b = record { each = b.each }

    pub tells_row : {Q : ℕ → ℕ → Nothing → Type 0} {u c : ℕ} (register value : ℕ) → Q u (sent_after (record { register = register; value = value }) c) tt
        → Tells R Nothing Q u c (row register value)
    unfolding row shows
    tells_row register value q = record { each = q }

    pub tells-word : {Q : ℕ → ℕ → ℕ → Type 0} {u c : ℕ} (kind : Reading) → Q (u + 1) c (get_or s u 0) → Tells R ℕ Q u c (word kind)
    unfolding word shows
    tells-word kind q = record { each = (λ t. q, λ t. tt) }

    pub tells_test : {A : Type 0} {Q : ℕ → ℕ → A → Type 0} {u c : ℕ} (b : Bool) {p q : Plan A}
        → (b ≡ true → Tells R A Q u c p) → (b ≡ false → Tells R A Q u c q) → Tells R A Q u c (cond b p q)
    tells_test true y n = y refl
    tells_test false y n = n refl

    pub tells-ensure : {Q : ℕ → ℕ → Nothing → Type 0} {u c : ℕ} (b : Bool) (e : Error) → (b ≡ false → R u c e) → (b ≡ true → Q u c tt)
        → Tells R Nothing Q u c (ensure b e)
    unfolding ensure
    tells-ensure b e r q = tells_test b (λ t. tells-give (q t)) (λ t. tells-fail (r t))

    -- at most n times: I holds before each, and after each that was not enough
    pub tells-until : {A : Type 0} {Q : ℕ → ℕ → A → Type 0} (I : ℕ → ℕ → Type 0) (n : ℕ) (enough : A → Bool) {p : Plan A}
        → ((u c : ℕ) → I u c → R u c E.SoftwareTimeout) → ((u c : ℕ) → I u c → Tells R A Q u c p) → ((u c : ℕ) (a : A) → Q u c a → I u c)
        → (u c : ℕ) → I u c → Tells R A (λ u c a. Q u c a × (enough a ≡ true)) u c (until n enough p)
    unfolding until
    tells-until I zero enough late once again u c i = tells-fail (late u c i)
    tells-until I (suc n) enough late once again u c i =
        tells_then (once u c i)
        (λ u c a q. tells_test (enough a) (λ e. tells-give (q, e)) (λ e. tells-until I n enough late once again u c (again u c a q)))

    -- a plan that obeys a rule keeps what readings and such rows keep
    module _ (rule : Rule) (I : ℕ → ℕ → Type 0) (any : (h : Line) → rule.holds h) (took : (u c : ℕ) → I u c → I (u + 1) c)
        (wrote : (u c : ℕ) (r : Row) → rule.writes r → I u c → I u (sent_after r c)) (said : (u c : ℕ) (e : Error) → rule.refuses e → I u c → R u c e) where
      keeps : {A : Type 0} (out : Bool) (p : Plan A) (u c : ℕ) → (out ≡ true → length s ≤ u) → obeys rule out p → I u c → shows R (λ u c a. I u c) u c p
      unfolding obeys shows
      keeps true (give a) u c o b i = absurd b
      keeps false (give a) u c o b i = i
      keeps true (refuse (failed e)) u c o b i = absurd b
      keeps false (refuse (failed e)) u c o b i = said u c e b i
      keeps out (refuse ended) u c o b i = tt
      keeps true (read r k z) u c o b i = (λ t. let all = o refl in absurd (omega arith), λ t. keeps true z u c o b i)
      keeps false (read r k z) u c o b i =
          (λ t. keeps false (k (get_or s u 0)) (u + 1) c never (b.0 (get_or s u 0)) (took u c i), λ t. keeps true z u c (λ _. t) b.1 i)
      keeps out (write r p) u c o b i = keeps out p u (sent_after r c) o b.1 (wrote u c r b.0 i)
      keeps out (look k) u c o b i = λ h. keeps out (k h) u c o (b h (any h)) i
      keeps out (hold h p) u c o b i = keeps out p u c o b.1 i

      pub tells_obeyed : {A : Type 0} {p : Plan A} {u c : ℕ} → Obeys rule A p → I u c → Tells R A (λ u c a. I u c) u c p
      tells_obeyed {p = p} {u = u} {c = c} b i = record { each = keeps false p u c never b.each i }

-- COMMANDS.

-- a row of CMD sends its index
sent_index : (index : ℕ) (response : Response) (c : ℕ) → index < 64 → sent_after (record { register = CMD; value = cmd_of index (form_of response).wait }) c ≡ index
unfolding sent_after form_of
sent_index index response c h = by response
  where
    sends : (wait : ℕ) → wait ≤ 3 → sent_after (record { register = CMD; value = cmd_of index wait }) c ≡ index
    sends wait w = rw (eq-eqb ((index + 64 * wait + 1024) / 2 ^ 10 % 2 ^ (10 + 1 - 10)) 1 (omega arith)) (omega arith)

    by : (response : Response) → sent_after (record { register = CMD; value = cmd_of index (form_of response).wait }) c ≡ index
    by None = sends 0 (omega arith)
    by R1 = sends 1 (omega arith)
    by R2 = sends 3 (omega arith)
    by R3 = sends 1 (omega arith)
    by R6 = sends 1 (omega arith)
    by R7 = sends 1 (omega arith)

-- rows of whatever kind, and refusals with such errors
abbrev plain : Rule
plain = record { holds = λ h. Unit {0}; writes = λ r. Unit {0}; refuses = Other; noted = λ r h i. tt }

module _ (s : List ℕ) where
  -- a command was sent last, and answered: of u words taken the last four are the answer, all taken after the first `from`
  pub record Answered (from index u c : ℕ) (ws : List ℕ) : Type 0 where
    pub place : ℕ
    pub later : from ≤ place
    pub last : u ≡ place + 4
    pub sent : c ≡ index
    pub words : ws ≡ answer_at s place

  -- it was sent, and no other yet
  record Sent (from index u c : ℕ) : Type 0 where
    pub later : from ≤ u
    pub sent : c ≡ index

  module _ (R : ℕ → ℕ → Error → Type 0) (others : (u c : ℕ) (e : Error) → Other e → R u c e) where
    -- waits and data phases: words are taken, and none is given back
    pub plain-tells : {A : Type 0} {p : Plan A} (from : ℕ) {u c : ℕ} → Obeys plain A p → from ≤ u → Tells s R A (λ u c a. from ≤ u) u c p
    plain-tells from b h =
        tells_obeyed s plain (λ u c. from ≤ u) (λ h. tt) (λ u c i. omega arith) (λ u c r w i. i) (λ u c e o i. others u c e o) b h

    module _ (from index : ℕ) where
      abbrev SentBy : {A : Type 0} → ℕ → ℕ → A → Type 0
      SentBy u c a = Sent from index u c

      reads : {u c : ℕ} (kind : Reading) → Sent from index u c → Tells s R ℕ SentBy u c (word kind)
      reads kind k = let h = k.later in tells-word s kind (record { later = omega arith; sent = k.sent })

      tests : {u c : ℕ} (b : Bool) (e : Error) → Other e → Sent from index u c → Tells s R Nothing SentBy u c (ensure b e)
      tests {u} {c} b e o k = tells-ensure s b e (λ no. others u c e o) (λ yes. k)

      polls : (u c : ℕ) → Sent from index u c → Tells s R ℕ SentBy u c poll_completion
      unfolding poll_completion error_told
      polls u c k =
          tells_then s (reads Reading.Status k) (λ u c w k. tells_then s (tests (clear 0x4 w) E.Timeout refl k) (λ u c a k. tells-give s k))

      echoes : {u c : ℕ} (form : Form) → Sent from index u c → Tells s R Nothing SentBy u c (echo index form)
      unfolding echo error_told
      echoes form k =
          tells_test s form.echoes
          (λ t. tells_then s (reads Reading.RespCmd k) (λ u c w k. tests _ E.ResponseMismatch refl k)) (λ t. tells-give s k)

      answers : {u c : ℕ} → Sent from index u c → Tells s R (List ℕ) (Answered from index) u c response_words
      unfolding response_words word handle shows counted
      answers {u} {c} k =
          let found : Answered from index (u + 1 + 1 + 1 + 1) c (answer_at s u) = record { place = u; later = k.later; last = omega arith; sent = k.sent; words = refl } in
          record { each = (λ t. (λ t. (λ t. (λ t. found, λ t. tt), λ t. tt), λ t. tt), λ t. tt) }

      judges : {u c : ℕ} (form : Form) (ws : List ℕ) → Answered from index u c ws → Tells s R (List ℕ) (Answered from index) u c (judge form ws)
      unfolding judge error_told
      judges {u} {c} form ws a =
          tells_then s {Q = λ u c x. Answered from index u c ws} (tells-ensure s _ _ (λ no. others u c (E.CardStatus _) refl) (λ yes. a))
          (λ u c x a. tells_then s {Q = λ u c x. Answered from index u c ws} (tells-ensure s _ _ (λ no. others u c E.CardLocked refl) (λ yes. a)) (λ u c x a. tells-give s a))

      completes : (limit : ℕ) (form : Form) → form.silent ≡ false → (u c : ℕ) → Sent from index u c → Tells s R (List ℕ) (Answered from index) u c (complete limit index form)
      unfolding complete wait_completion answer error_told
      completes limit form loud u c k =
          tells_then s
          (tells-until s (Sent from index) limit _ (λ u c k. others u c E.SoftwareTimeout refl) polls (λ u c w k. k) u c k)
          (λ u c status k. tells_test s form.silent (λ t. absurd (unequal (sym t ∙ loud)))
          (λ t. tells_then s (tests _ E.Crc refl k.0)
          (λ u c a k. tells_then s (echoes form k) (λ u c a k. tells_then s (answers k) (λ u c ws a. judges form ws a)))))

      issues : {u c : ℕ} (argument : ℕ) (response : Response) → index < 64 → from ≤ u → Tells s R Nothing SentBy u c (issue index argument (form_of response))
      unfolding issue row handle shows
      issues argument response small h = record { each = record { later = h; sent = sent_index index response _ small } }

      inner : {u c : ℕ} (limit argument : ℕ) (response : Response) → index < 64 → (form_of response).silent ≡ false → from ≤ u
          → Tells s R (List ℕ) (Answered from index) u c (command_inner limit index argument response)
      unfolding command_inner
      inner limit argument response small loud h =
          tells_then s (plain-tells from (idle-obeys plain (λ e o. o) (λ r o. tt) limit false) h)
          (λ u c a h. tells_then s (issues argument response small h) (λ u c a k. completes limit (form_of response) loud u c k))

      -- the gate opens and closes around it, by a row that sends nothing
      closes : {A : Type 0} {Q : ℕ → ℕ → A → Type 0} {u c : ℕ} (on : Bool) {p : Plan A} → Tells s R A Q u c p → Tells s R A Q u c (set_clken on then λ _. p)
      unfolding set_clken row handle shows sent_after
      closes on b = record { each = λ h. b.each }

      pub command-tells : {u c : ℕ} (limit argument : ℕ) (response : Response) → index < 64 → (form_of response).silent ≡ false → from ≤ u
          → Tells s R (List ℕ) (Answered from index) u c (command limit index argument response)
      unfolding command
      command-tells limit argument response small loud h =
          tells-look s (λ line. tells_test s line.gated
          (λ t. closes true
          (tells-handle s _ _ (inner limit argument response small loud h) (λ u c ws a. closes false (tells-give s a)) (λ u c e r. closes false (tells-fail s r)) (λ u c. closes false (tells-end s))))
          (λ t. inner limit argument response small loud h))

    -- CMD55 is refused with its field where the answer to it, which was taken last, says so
    pub app-tells : ((from u c : ℕ) (ws : List ℕ) → Answered from 55 u c ws → clear 0x20 (first_of ws) ≡ true → R u c (E.UnsupportedCardType AppCommand))
        → (from : ℕ) {u c : ℕ} (limit rca : ℕ) → from ≤ u → Tells s R Nothing (λ u c a. from ≤ u) u c (app_command limit rca)
    unfolding app_command form_of
    app-tells untaken from limit rca h =
        tells_then s (command-tells from 55 limit _ R1 (omega arith) refl h)
        (λ u c ws a. tells-ensure s _ _ (λ no. untaken from u c ws a (opposite no)) (λ yes. let l = a.last in let m = a.later in omega arith))
