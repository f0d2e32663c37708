-- The data words of an accepted read lie in the script one after the other, from the place of its last word 0 on.
use Rattle.std.specs.Prelude.{Result, Ok, Err}
use Prim.Native.Nat.{ℕ, zero, suc, ◌+◌, ◌/◌, ◌<◌}
use mathlib.Core.Path.{◌≡◌, refl, ap, ◌∙◌}
use mathlib.Core.Bool.{Bool, true, false, cond}
use mathlib.Core.List.{List, [], ◌∷◌}
use native.Mathlib.Omega.{arith}
use native.Mathlib.Decide.{dec_lt}
use lib.Dec.{ltb}
use lib.ListN.{length, get_or, take, drop, set}
use lib.Seq.{drop-cons}
use borrow.Author.Tests.{lt-ltb, le-ltb, ne_eqb}
use Rattle.types.specs.declared.config.Config.{Config}
use Rattle.types.specs.declared.error.Answer.{Answer}
use Rattle.types.specs.declared.error.Answer.TheVariants as Answered
use Rattle.types.specs.declared.error.Error.{Error}
use Rattle.types.specs.declared.error.Error.TheVariants as E
use Rattle.types.specs.Sd.{ready_of}
use Rattle.tape.specs.declared.progress.Halt.TheVariants.{Refused, ScriptEnded, TraceFull}
use Rattle.tape.specs.declared.progress.Line.{Line}
use Rattle.tape.specs.Pace.{Pace}
use Rattle.tape.specs.Pace.{Going, Stopped}
use Rattle.tape.specs.declared.rows.Row.{Row}
use Rattle.tape.specs.declared.script.Reading.{Reading}
use Rattle.tape.specs.Plan.{Nothing, Plan, Cause, failed, ended, give, refuse, read, write, look, hold, handle, ◌then◌, refusing, ensure, until}
use Rattle.tape.specs.Run.{State, After, after, noted, run, run_from, next_at}
use Rattle.tape.specs.Steps.{word, row, wait_idle, reset_controller, stop_data, set_clken, data_from, data_words}
use Rattle.tape.proofs.Laws.{run-handle}
use Rattle.bus.specs.declared.response.Form.{Form}
use Rattle.bus.specs.declared.response.Response.{Response}
use Rattle.bus.specs.declared.transfer.Transfer.{Transfer}
use Rattle.bus.specs.Command.{form_of, issue, poll_completion, wait_completion, echo, response_words, judge, answer, complete, command_inner, command}
use Rattle.bus.specs.Ready.{retry_delay, read_status, try_ready, wait_ready}
use Rattle.bus.specs.Transfer.{incoming, landed, start_data, wait_data, receive, close_gate, of_many, stop_transmission, end_data, transfer_data, blocking_data}
use Rattle.init.specs.Initialise.{source_of}
use Rattle.host.specs.declared.host.Sdmmc.{Sdmmc}
use Rattle.host.specs.Calls.{Came, dropped, kept, ends, transferred, approached, served, blocks_next, blocks_plan, blocks_from, blocks_came, read_came}
use Rattle.refusals.proofs.Whole.{read_exact}
use Rattle.stepping.specs.Closing.{Closing, keeping, dropping, accepting, blocks_host}
use Rattle.feed.specs.Runs.{came_by, no_closing, lies_at, place_run, count_of}
use Rattle.underway.specs.Whole.{call_plan, blocks_at, blocks_call}
use Rattle.feed.proofs.Whole.{blocks-call}

-- A plan that reads no data word leaves the place as it was.

unfoldable dataless : {A : Type 0} → Plan A → Type 0
dataless (give a) = Unit {0}
dataless (refuse c) = Unit {0}
dataless (read r k z) = ((u q : ℕ) → lies_at r u q ≡ q) × ((w : ℕ) → dataless (k w)) × dataless z
dataless (write r p) = dataless p
dataless (look k) = (h : Line) → dataless (k h)
dataless (hold h p) = dataless p

record Dataless (A : Type 0) (p : Plan A) : Type 0 where
  each : dataless p

by_place : (b : Bool) {x y q : ℕ} → x ≡ q → y ≡ q → cond b x y ≡ q
by_place true e e' = e
by_place false e e' = e'

stays : {A : Type 0} (s : List ℕ) (p : Plan A) (q u n : ℕ) (h : Line) (l : List Row) → dataless p → place_run s p q u n h l ≡ q
unfolding dataless place_run
stays s (give a) q u n h l b = refl
stays s (refuse c) q u n h l b = refl
stays s (read r k z) q u n h l b =
    by_place (ltb u (length s)) (stays s (k (get_or s u 0)) (lies_at r u q) (u + 1) n h l (b.1 (get_or s u 0)) ∙ b.0 u q) (stays s z q u n h l b.2)
stays s (write r p) q u n h l b = by_place (ltb n (length l)) (stays s p q u (n + 1) (noted r h) (set l n r) b) refl
stays s (look k) q u n h l b = stays s (k h) q u n h l (b h)
stays s (hold h' p) q u n h l b = stays s p q u n h' l b

-- of every way that plans are joined

module _ {A B : Type 0} (f : A → Plan B) (g : Cause → Plan B) (v : (a : A) → Dataless B (f a)) (x : (e : Cause) → Dataless B (g e)) where
  joined : (p : Plan A) → dataless p → dataless (handle f g p)
  unfolding dataless handle
  joined (give a) b = (v a).each
  joined (refuse e) b = (x e).each
  joined (read r k z) b = (b.0, λ w. joined (k w) (b.1 w), joined z b.2)
  joined (write r p) b = joined p b
  joined (look k) b = λ h. joined (k h) (b h)
  joined (hold h p) b = joined p b

on-handle : {A B : Type 0} {p : Plan A} {f : A → Plan B} (g : Cause → Plan B)
    → Dataless A p → ((a : A) → Dataless B (f a)) → ((e : Cause) → Dataless B (g e)) → Dataless B (handle f g p)
on-handle {p = p} {f = f} g b v x = record { each = joined f g v x p b.each }

on-give : {A : Type 0} {a : A} → Dataless A (give a)
unfolding dataless
on-give = record { each = tt }

on-refuse : {A : Type 0} {c : Cause} → Dataless A (refuse c)
unfolding dataless
on-refuse = record { each = tt }

on_then : {A B : Type 0} {p : Plan A} {f : A → Plan B} → Dataless A p → ((a : A) → Dataless B (f a)) → Dataless B (p then f)
on_then b v = on-handle refuse b v (λ e. on-refuse)

on-look : {A : Type 0} {k : Line → Plan A} → ((h : Line) → Dataless A (k h)) → Dataless A (look k)
unfolding dataless
on-look v = record { each = λ h. (v h).each }

on_test : {A : Type 0} (b : Bool) {p q : Plan A} → Dataless A p → Dataless A q → Dataless A (cond b p q)
on_test true y n = y
on_test false y n = n

on_word : (r : Reading) → ((u q : ℕ) → lies_at r u q ≡ q) → Dataless ℕ (word r)
unfolding word dataless
on_word r e = record { each = (e, λ w. tt, tt) }

on-status : Dataless ℕ (word Reading.Status)
unfolding lies_at
on-status = on_word Reading.Status (λ u q. refl)

on_row : (register value : ℕ) → Dataless Nothing (row register value)
unfolding row dataless
on_row register value = record { each = tt }

on-ensure : (b : Bool) (e : Error) → Dataless Nothing (ensure b e)
unfolding ensure
on-ensure b e = on_test b on-give on-refuse

on-until : {A : Type 0} (n : ℕ) (enough : A → Bool) {p : Plan A} → Dataless A p → Dataless A (until n enough p)
unfolding until
on-until zero enough b = on-refuse
on-until (suc n) enough b = on_then b (λ v. on_test (enough v) on-give (on-until n enough b))

-- the plans of a read but for its data words

idle-dataless : (limit : ℕ) (transfer : Bool) → Dataless Nothing (wait_idle limit transfer)
unfolding wait_idle
idle-dataless limit transfer = on_then (on-until limit _ on-status) (λ _. on-give)

clken_dataless : (on : Bool) → Dataless Nothing (set_clken on)
unfolding set_clken
clken_dataless on = on-look (λ line. on_row _ _)

complete-dataless : (limit index : ℕ) (form : Form) → Dataless (List ℕ) (complete limit index form)
unfolding complete wait_completion poll_completion answer echo response_words judge lies_at
complete-dataless limit index form =
    on_then (on-until limit _ (on_then on-status (λ w. on_then (on-ensure _ E.Timeout) (λ _. on-give))))
    (λ status. on_test form.silent on-give
    (on_then (on-ensure _ E.Crc)
    (λ _. on_then (on_test form.echoes (on_then (on_word _ (λ u q. refl)) (λ w. on-ensure _ E.ResponseMismatch)) on-give)
    (λ _. on_then
    (on_then (on_word _ (λ u q. refl)) (λ a. on_then (on_word _ (λ u q. refl)) (λ b. on_then (on_word _ (λ u q. refl)) (λ c. on_then (on_word _ (λ u q. refl)) (λ d. on-give)))))
    (λ ws. on_then (on-ensure _ _) (λ _. on_then (on-ensure _ E.CardLocked) (λ _. on-give)))))))

inner-dataless : (limit index argument : ℕ) (response : Response) → Dataless (List ℕ) (command_inner limit index argument response)
unfolding command_inner issue
inner-dataless limit index argument response =
    on_then (idle-dataless limit false)
    (λ _. on_then (on_then (on_row _ _) (λ _. on_then (on_row _ _) (λ _. on_row _ _))) (λ _. complete-dataless limit index (form_of response)))

command-dataless : (limit index argument : ℕ) (response : Response) → Dataless (List ℕ) (command limit index argument response)
unfolding command
command-dataless limit index argument response =
    on-look (λ line. on_test line.gated
    (on_then (clken_dataless true)
    (λ _. on-handle (refusing (set_clken false)) (inner-dataless limit index argument response)
    (λ ws. on_then (clken_dataless false) (λ _. on-give)) (λ e. on_then (clken_dataless false) (λ _. on-refuse))))
    (inner-dataless limit index argument response))

ready-dataless : (source : ℕ) (config : Config) (rca : ℕ) → Dataless Nothing (wait_ready source config rca)
unfolding wait_ready try_ready read_status retry_delay
ready-dataless source config rca =
    on_then
    (on-until _ _
    (on_then (on_then (command-dataless _ 13 _ _) (λ ws. on-give))
    (λ status. on_test (ready_of status) on-give (on_then (on_row _ _) (λ _. on-give)))))
    (λ _. on-give)

end-dataless : (source : ℕ) (config : Config) (index rca : ℕ) → Dataless Nothing (end_data source config index rca)
unfolding end_data stop_data close_gate stop_transmission
end-dataless source config index rca =
    on_then (on_then (on_row _ _) (λ _. on_then (on_row _ _) (λ _. on_row _ _)))
    (λ _. on_then (on-look (λ line. on_test line.gated (clken_dataless false) on-give))
    (λ _. on_then (on_test (of_many index) (on_then (command-dataless _ 12 _ _) (λ _. on-give)) on-give)
    (λ _. ready-dataless source config rca)))

-- Where the words of a plan lie: whatever it gives lies at the place that its run comes to.

module _ (s : List ℕ) where
  -- how f and g go on from where a plan has come
  unfoldable place_then : {A B : Type 0} → (A → Plan B) → (Cause → Plan B) → A → Pace → State → ℕ → ℕ
  place_then f g v Going w q = place_run s (f v) q w.progress.used w.progress.rows w.progress.line w.list
  place_then f g v (Stopped (Refused e)) w q =
      place_run s (g (failed e)) q w.progress.used w.progress.rows w.progress.line w.list
  place_then f g v (Stopped ScriptEnded) w q = place_run s (g ended) q w.progress.used w.progress.rows w.progress.line w.list
  place_then f g v (Stopped TraceFull) w q = q

  abbrev placed : {A B : Type 0} → (A → Plan B) → (Cause → Plan B) → After A → ℕ → ℕ
  placed f g x q = place_then f g x.value x.state.progress.pace x.state q

  by_both : {X : Type 0} (g : X → ℕ → ℕ) (b : Bool) {x y : X} {m n z z' : ℕ} → z ≡ g x m → z' ≡ g y n → cond b z z' ≡ g (cond b x y) (cond b m n)
  by_both g true e e' = e
  by_both g false e e' = e'

  place-handle : {A B : Type 0} (d : A) (f : A → Plan B) (g : Cause → Plan B) (p : Plan A) (q u n : ℕ) (h : Line) (l : List Row)
      → place_run s (handle f g p) q u n h l ≡ placed f g (run s d p u n h l) (place_run s p q u n h l)
  unfolding run handle place_run place_then
  place-handle d f g (give a) q u n h l = refl
  place-handle d f g (refuse (failed e)) q u n h l = refl
  place-handle d f g (refuse ended) q u n h l = refl
  place-handle {A} d f g (read r k z) q u n h l =
      by_both (placed f g) (ltb u (length s)) (place-handle d f g (k (get_or s u 0)) (lies_at r u q) (u + 1) n h l)
      (place-handle d f g z q u n h l)
  place-handle {A} d f g (write r p) q u n h l =
      by_both (placed f g) (ltb n (length l)) (place-handle d f g p q u (n + 1) (noted r h) (set l n r)) refl
  place-handle d f g (look k) q u n h l = place-handle d f g (k h) q u n h l
  place-handle d f g (hold h' p) q u n h l = place-handle d f g p q u n h' l

  abbrev Lain : List ℕ → ℕ → Type 0
  Lain ws place = ws ≡ take (length ws) (drop place s)

  record Laid (A : Type 0) (d : A) (taken : A → List ℕ) (p : Plan A) : Type 0 where
    each : (q u n : ℕ) (h : Line) (l : List Row) → Lain (taken (run s d p u n h l).value) (place_run s p q u n h l)

  -- a plan whose values, and whose refusals, are laid by what comes after it
  module _ {A B : Type 0} (d : A) (d' : B) (taken : B → List ℕ) (none : taken d' ≡ []) (f : A → Plan B) (g : Cause → Plan B) (p : Plan A) where
    laid-handle :
        ((q u n u' n' : ℕ) (h h' : Line) (l l' : List Row) → (run s d p u n h l).state.progress.pace ≡ Going
        → Lain (taken (run s d' (f (run s d p u n h l).value) u' n' h' l').value) (place_run s (f (run s d p u n h l).value) (place_run s p q u n h l) u' n' h' l'))
        → ((e : Cause) (q u n : ℕ) (h : Line) (l : List Row) → Lain (taken (run s d' (g e) u n h l).value) (place_run s (g e) q u n h l))
        → Laid B d' taken (handle f g p)
    unfolding next_at place_then
    laid-handle good bad =
        record { each = λ q u n h l. rw (run-handle s d d' f g p u n h l, place-handle d f g p q u n h l) (by q u n h l (run s d p u n h l).state.progress.pace refl) }
      where
        by : (q u n : ℕ) (h : Line) (l : List Row) (a : Pace) → (run s d p u n h l).state.progress.pace ≡ a
            → Lain (taken (next_at s d' f g (run s d p u n h l).value a (run s d p u n h l).state).value)
            (place_then f g (run s d p u n h l).value a (run s d p u n h l).state (place_run s p q u n h l))
        by q u n h l Going going = good q u n _ _ h _ l _ going
        by q u n h l (Stopped (Refused e)) going = bad (failed e) _ _ _ _ _
        by q u n h l (Stopped ScriptEnded) going = bad ended _ _ _ _ _
        by q u n h l (Stopped TraceFull) going = rw none refl

  -- the data words

  data_dataless : (k n : ℕ) → 0 < k → Dataless (List ℕ) (data_from k n)
  unfolding data_from lies_at
  data_dataless k zero some = on-give
  data_dataless k (suc n) some =
      on_then (on_word (Reading.Data k) (λ u q. rw (ne_eqb k 0 (λ e. omega arith)))) (λ w. on_then (data_dataless (k + 1) n (omega arith)) (λ ws. on-give))

  module _ (k n u m : ℕ) (h : Line) (l : List Row) (some : u < length s) where
    one : run s [] (data_from k (suc n)) u m h l
        ≡ next_at s [] (λ ws. give (get_or s u 0 ∷ ws)) refuse (run s [] (data_from (k + 1) n) (u + 1) m h l).value
        (run s [] (data_from (k + 1) n) (u + 1) m h l).state.progress.pace (run s [] (data_from (k + 1) n) (u + 1) m h l).state
    unfolding data_from handle run word
    one = rw (lt-ltb u (length s) some) (run-handle s [] [] (λ ws. give (get_or s u 0 ∷ ws)) refuse (data_from (k + 1) n) (u + 1) m h l)

  data_lain : (k n u m : ℕ) (h : Line) (l : List Row) → Lain (run s [] (data_from k n) u m h l).value u
  unfolding data_from run next_at handle word
  data_lain k zero u m h l = refl
  data_lain k (suc n) u m h l = by (dec_lt u (length s)) (data_lain (k + 1) n (u + 1) m h l)
    where
      x : After (List ℕ)
      x = run s [] (data_from (k + 1) n) (u + 1) m h l

      more : (a : Pace) → u < length s → Lain x.value (u + 1) → Lain (next_at s [] (λ ws. give (get_or s u 0 ∷ ws)) refuse x.value a x.state).value u
      more Going some ih =
          let one_on : u + 1 ≡ suc u = omega arith in
          rw (drop-cons s u 0 some) (ap (λ (ws : List ℕ). get_or s u 0 ∷ ws) (ih ∙ ap (λ (k : ℕ). take (length x.value) (drop k s)) one_on))
      more (Stopped (Refused e)) some ih = refl
      more (Stopped ScriptEnded) some ih = refl
      more (Stopped TraceFull) some ih = refl

      by : Dec (u < length s) → Lain x.value (u + 1) → Lain (run s [] (data_from k (suc n)) u m h l).value u
      by (yes some) ih = rw (one k n u m h l some) (more x.state.progress.pace some ih)
      by (no none) ih = rw (le-ltb u (length s) (omega arith)) refl

  data_laid : (n : ℕ) → Laid (List ℕ) [] (λ ws. ws) (data_words n)
  unfolding data_from run handle word place_run lies_at
  data_laid zero = record { each = λ q u m h l. refl }
  data_laid (suc n) = record { each = λ q u m h l. by q u m h l (dec_lt u (length s)) }
    where
      by : (q u m : ℕ) (h : Line) (l : List Row) → Dec (u < length s)
          → Lain (run s [] (data_from 0 (suc n)) u m h l).value (place_run s (data_from 0 (suc n)) q u m h l)
      by q u m h l (yes some) =
          let rest = on_then (data_dataless 1 n (omega arith)) (λ (ws : List ℕ). on-give {a = get_or s u 0 ∷ ws}) in
          let place : place_run s (data_from 0 (suc n)) q u m h l ≡ u = rw (lt-ltb u (length s) some) (stays s _ u (u + 1) m h l rest.each) in
          rw place (data_lain 0 (suc n) u m h l)
      by q u m h l (no none) = rw (le-ltb u (length s) (omega arith)) refl

  -- after other plans, and before plans that read none
  laid-after : {A : Type 0} (d : A) (p : Plan A) (f : A → Plan (List ℕ)) → ((a : A) → Laid (List ℕ) [] (λ ws. ws) (f a))
      → Laid (List ℕ) [] (λ ws. ws) (p then f)
  unfolding run
  laid-after d p f v = laid-handle d [] (λ ws. ws) refl f refuse p (λ q u n u' n' h h' l l' going. (v _).each _ u' n' h' l') (λ e q u n h l. refl)

  -- rows and readings, and then no value at all
  refusing-none : (p : Plan Nothing) (c : Cause) (u n : ℕ) (h : Line) (l : List Row) → ◌≡◌ {A = List ℕ} (run s [] (refusing p c) u n h l).value []
  unfolding next_at run
  refusing-none p c u n h l = rw (run-handle s {B = List ℕ} (tt {0}) [] (λ _. refuse c) refuse p u n h l) (by x.state.progress.pace)
    where
      x : After Nothing
      x = run s (tt {0}) p u n h l

      by : (a : Pace) → ◌≡◌ {A = List ℕ} (next_at s [] (λ (_ : Nothing). refuse c) refuse tt a x.state).value []
      by Going = refl
      by (Stopped (Refused e)) = refl
      by (Stopped ScriptEnded) = refl
      by (Stopped TraceFull) = refl

  laid-before : (p : Plan (List ℕ)) (after : Plan Nothing) → Laid (List ℕ) [] (λ ws. ws) p → Dataless Nothing after
      → Laid (List ℕ) [] (λ ws. ws) (p then λ ws. after then λ _. give ws)
  unfolding next_at run
  laid-before p after b free =
      laid-handle [] [] (λ ws. ws) refl (λ ws. after then λ _. give ws) refuse p
      (λ q u n u' n' h h' l l' going.
      rw (
        stays s _ (place_run s p q u n h l) u' n' h' l' (on_then free (λ _. on-give {a = (run s [] p u n h l).value})).each,
        run-handle s (tt {0}) [] (λ _. give (run s [] p u n h l).value) refuse after u' n' h' l',
      )
      (by (run s [] p u n h l).value (place_run s p q u n h l) (run s (tt {0}) after u' n' h' l').state.progress.pace (run s (tt {0}) after u' n' h' l').state (b.each q u n h l)))
      (λ e q u n h l. refl)
    where
      by : (ws : List ℕ) (place : ℕ) (a : Pace) (w : State) → Lain ws place → Lain (next_at s [] (λ (_ : Nothing). give ws) refuse tt a w).value place
      by ws place Going w e = e
      by ws place (Stopped (Refused x)) w e = refl
      by ws place (Stopped ScriptEnded) w e = refl
      by ws place (Stopped TraceFull) w e = refl

  transfer-laid : (source : ℕ) (config : Config) (transfer : Transfer) (rca : ℕ) → Laid (List ℕ) [] (λ ws. ws) (blocking_data source config incoming transfer rca)
  unfolding blocking_data transfer_data receive landed run place_run
  transfer-laid source config transfer rca =
      laid-handle [] [] (λ ws. ws) refl give (refusing reset_controller) (transfer_data source config incoming transfer rca)
      (λ q u n u' n' h h' l l' going. taken.each q u n h l)
      (λ e q u n h l. rw (refusing-none reset_controller e u n h l) refl)
    where
      taken : Laid (List ℕ) [] (λ ws. ws) (transfer_data source config incoming transfer rca)
      taken =
          laid-after (tt {0}) (start_data config incoming transfer) _
          (λ _. laid-before (receive config.poll_limit incoming transfer.words) (end_data source config transfer.index rca)
          (laid-after (tt {0}) (wait_data config.poll_limit) _ (λ _. data_laid transfer.words)) (end-dataless source config transfer.index rca))

  -- a read
  module _ (host : Sdmmc) where
    abbrev LaidCall : Plan Closing → Type 0
    LaidCall p = Laid Closing (no_closing host) (λ c. c.taken) p

    keeping-laid : (e : Error) → LaidCall (keeping host (failed e))
    unfolding keeping run place_run
    keeping-laid e = record { each = λ q u n h l. refl }

    call-laid : (next : Line → List ℕ → Sdmmc) (approach : Plan Nothing) (transfer : Plan (List ℕ)) → Laid (List ℕ) [] (λ ws. ws) transfer
        → LaidCall (call_plan host approach transfer next)
    unfolding keeping dropping accepting run place_run
    call-laid next approach transfer b =
        laid-handle (tt {0}) (no_closing host) (λ c. c.taken) refl (λ _. handle (accepting host next) (dropping host) transfer) (keeping host) approach
        (λ q u n u' n' h h' l l' going. whole.each (place_run s approach q u n h l) u' n' h' l') (λ e q u n h l. refl)
      where
        whole : LaidCall (handle (accepting host next) (dropping host) transfer)
        whole =
            laid-handle [] (no_closing host) (λ c. c.taken) refl (accepting host next) (dropping host) transfer
            (λ q u n u' n' h h' l l' going. b.each q u n h l) (λ e q u n h l. refl)

    at-laid : (blocks : ℕ) (a : Result ℕ Error) → LaidCall (blocks_at host incoming blocks a)
    unfolding blocks_at
    at-laid blocks (Err e) = keeping-laid e
    at-laid blocks (Ok a) = call-laid (blocks_host host) _ _ (transfer-laid _ _ _ _)

    read-laid : (index bytes : ℕ) → LaidCall (blocks_call host incoming index bytes)
    unfolding blocks_call
    read-laid index bytes = at-laid (bytes / 512) _

    read_lain : (index bytes : ℕ) (l : List Row)
        → Lain (read_came host index bytes s l).taken (place_run s (blocks_call host incoming index bytes) 0 0 0 host.line l)
    unfolding came_by
    read_lain index bytes l =
        rw (blocks-call host s l incoming index bytes) (by x.state.progress.pace x.state ((read-laid index bytes).each 0 0 0 host.line l))
      where
        x : After Closing
        x = run s (no_closing host) (blocks_call host incoming index bytes) 0 0 host.line l

        place : ℕ
        place = place_run s (blocks_call host incoming index bytes) 0 0 0 host.line l

        by : (a : Pace) (w : State) → Lain x.value.taken place → Lain (came_by host x.value a w).taken place
        by Going w e = e
        by (Stopped (Refused e')) w e = refl
        by (Stopped ScriptEnded) w e = refl
        by (Stopped TraceFull) w e = refl

-- A read that is not accepted takes no word.

unfoldable taken_by : Answer → List ℕ → List ℕ
taken_by Answered.Accepted ws = ws
taken_by (Answered.Refused e) ws = []
taken_by Answered.ScriptEnded ws = []
taken_by Answered.TraceFull ws = []
taken_by Answered.BadBook ws = []

abbrev Own : Came → Type 0
Own x = x.taken ≡ taken_by x.answer x.taken

ends-own : (host refused accepted : Sdmmc) (words : List ℕ) (q : Pace) (w : State) → Own (ends host refused accepted words q w)
unfolding ends taken_by
ends-own host refused accepted words Going w = refl
ends-own host refused accepted words (Stopped (Refused e)) w = refl
ends-own host refused accepted words (Stopped ScriptEnded) w = refl
ends-own host refused accepted words (Stopped TraceFull) w = refl

module _ (host : Sdmmc) (index bytes : ℕ) (s : List ℕ) (l : List Row) where
  from-own : (a : Result ℕ Error) → Own (blocks_from host incoming (bytes / 512) a s l)
  unfolding blocks_from served approached transferred taken_by
  from-own (Err e) = refl
  from-own (Ok a) = by w.progress.pace
    where
      w : State
      w = (run s (tt {0}) (wait_ready (source_of host.settings) host.settings.config host.card.rca) 0 0 host.line l).state

      by : (q : Pace) → Own (approached host (blocks_plan host incoming a (bytes / 512)) (blocks_next host) s q w)
      by Going =
          let x = run_from s [] (blocks_plan host incoming a (bytes / 512)) w in
          ends-own host (dropped host x.state) (blocks_next host x.state x.value) x.value x.state.progress.pace x.state
      by (Stopped h) = ends-own host (kept host w) host [] (Stopped h) w

  read-own : Own (read_came host index bytes s l)
  unfolding blocks_came
  read-own = from-own _

  pub read_none : ((read_came host index bytes s l).answer ≡ Answered.Accepted → ⊥) → (read_came host index bytes s l).taken ≡ []
  unfolding taken_by
  read_none other = by (read_came host index bytes s l).answer refl
    where
      by : (a : Answer) → (read_came host index bytes s l).answer ≡ a → (read_came host index bytes s l).taken ≡ []
      by Answered.Accepted e = absurd (other e)
      by (Answered.Refused x) e = rw e at read-own
      by Answered.ScriptEnded e = rw e at read-own
      by Answered.TraceFull e = rw e at read-own
      by Answered.BadBook e = rw e at read-own

  -- so what it takes is so many words from that place on
  pub read-took : (read_came host index bytes s l).taken
      ≡ take (count_of (read_came host index bytes s l).answer bytes) (drop (place_run s (blocks_call host incoming index bytes) 0 0 0 host.line l) s)
  unfolding taken_by count_of
  read-took = by (read_came host index bytes s l).answer refl
    where
      place : ℕ
      place = place_run s (blocks_call host incoming index bytes) 0 0 0 host.line l

      by : (a : Answer) → (read_came host index bytes s l).answer ≡ a → (read_came host index bytes s l).taken ≡ take (count_of a bytes) (drop place s)
      by Answered.Accepted e = rw (← (read_exact host index bytes s l e).1) (read_lain s host index bytes l)
      by (Answered.Refused x) e = rw e at read-own
      by Answered.ScriptEnded e = rw e at read-own
      by Answered.TraceFull e = rw e at read-own
      by Answered.BadBook e = rw e at read-own
