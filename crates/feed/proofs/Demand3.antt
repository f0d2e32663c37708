-- Any list of calls on one host, each taken one answer at a time from a script, comes to what `serve` says. So what holds of any
-- list of calls holds of it, and the order's third demand with it.
use mathlib.Core.Path.{◌≡◌, refl, ap, ◌∙◌}
use mathlib.Core.List.{List, [], ◌∷◌, map}
use Rattle.types.specs.declared.error.Answer.TheVariants as Answered
use Rattle.types.specs.Sd.{Protects}
use Rattle.init.specs.declared.settings.Settings.{Settings}
use Rattle.host.specs.declared.host.Called.{Called}
use Rattle.host.specs.declared.host.Sdmmc.{Sdmmc}
use Rattle.host.specs.Calls.{called_of, held_of, made}
use Rattle.calls.specs.Serve.{Call, comes, serve, history}
use Rattle.calls.specs.Order.{due}
use Rattle.calls.proofs.Held.{held-protects}
use Rattle.calls.proofs.Order.{record_due}
use Rattle.feed.specs.Stepped.{AllStepped, none, one}
use Rattle.feed.proofs.Stepped.{stepped-comes}

-- what each came to, and the last host
pub all-served : {host : Sdmmc} {cs : List Call} {rs : List Called} {h : Sdmmc} → AllStepped host cs rs h
    → (rs ≡ map called_of (serve host cs).came) × (h ≡ (serve host cs).host)
unfolding serve
all-served none = (refl, refl)
all-served (one {host = host} {c = c} {r = r} {cs = cs} {rs = rs} {h = h} x xs) =
    let came = (stepped-comes x).0 in
    let next : r.host ≡ (comes host c).host = ap (λ (r : Called). r.host) came in
    let rest = all-served xs in (
      (λ i. came i ∷ rest.0 i) ∙ ap (λ (k : Sdmmc). called_of (comes host c) ∷ map called_of (serve k cs).came) next,
      rest.1 ∙ ap (λ (k : Sdmmc). (serve k cs).host) next,
    )

-- DEMAND 3 for it: on a host that was made, the record held after them is the one due.
pub record_stepped : (set : Settings) → (made set).answer ≡ Answered.Accepted → {cs : List Call} {rs : List Called} {h : Sdmmc}
    → AllStepped (made set).host cs rs h → held_of h ≡ due (history [] (made set).host cs)
record_stepped set ok {cs = cs} all = ap held_of (all-served all).1 ∙ record_due set ok cs

-- and its two flags are those of the CSD held (P8)
pub protects-stepped : (set : Settings) → (made set).answer ≡ Answered.Accepted → {cs : List Call} {rs : List Called} {h : Sdmmc}
    → AllStepped (made set).host cs rs h → Protects h.card
protects-stepped set ok {cs = cs} all = rw (all-served all).1 (held-protects set ok cs)
