-- A book's calls one after the other: after k of them, what the rest prints completes what all print.
use Prim.Native.Nat.{ℕ, suc, ◌+◌, ◌-◌, ◌≤◌, ◌<◌}
use mathlib.Core.Bool.{false, ◌||◌}
use mathlib.Core.List.{List, map}
use mathlib.Core.Path.{◌≡◌, sym, ◌∙◌}
use native.Mathlib.Nat.{sub-zero}
use native.Mathlib.Omega.{arith}
use lib.ListN.{get_or, drop}
use Rattle.text.specs.Pens.{written}
use Rattle.text.specs.declared.pen.Pen.{Pen}
use Rattle.text.proofs.Pens.{written_append, written_nothing}
use Rattle.host.specs.declared.host.Sdmmc.{Sdmmc}
use Rattle.calls.specs.Serve.{serve}
use Rattle.book.specs.Layout.{count_of, contents_of, bad_rows, book_in}
use Rattle.book.specs.Readers.{asked_at}
use Rattle.book.proofs.Causes.{Good, or_left, or_right, few-blocks}
use Rattle.book.proofs.Rows.{row_at, bad_asked, bad-next}
use Rattle.book.proofs.Reached.{Reached, calls_left, reached-first, reached-next, all-calls, none_left, one-call}
use Rattle.bench.specs.Bench.{call_of, lines_from, lines_served, line_of, host_after}

-- what is printed of the calls from k on
abbrev pub rest : List ℕ → ℕ → ℕ → Sdmmc → List ℕ
rest ws k place host = lines_served (k + 1) host (map (call_of 4096) (calls_left ws k place))

abbrev pub all : List ℕ → Sdmmc → List ℕ
all ws host = lines_served 1 host (map (call_of 4096) (book_in ws).calls)

pub record Serving (ws : List ℕ) (host₀ : Sdmmc) (start : Pen) (k : ℕ) (host : Sdmmc) (place : ℕ) (pen : Pen) : Type 0 where
  pub reached : Reached ws k place
  pub good : bad_rows (count_of ws - k) (drop (row_at k) ws) ≡ false
  pub whole : written (rest ws k place host) pen ≡ written (all ws host₀) start

module _ {ws : List ℕ} {host₀ : Sdmmc} {start : Pen} where
  pub first-turn : Good ws → Serving ws host₀ start 0 host₀ (contents_of ws) start
  first-turn g =
      record { reached = reached-first ws g; good = rw sub-zero g.rows; whole = rw (all-calls ws) }

  module _ {k : ℕ} {host : Sdmmc} {place : ℕ} {pen : Pen} (t : Serving ws host₀ start k host place pen) where
    -- row k is good, and so are those behind it
    goods : k < count_of ws → (bad_asked (asked_at ws k 0) || bad_rows (count_of ws - (k + 1)) (drop (row_at (k + 1)) ws)) ≡ false
    goods h =
        let more : count_of ws - k ≡ suc (count_of ws - (k + 1)) = omega arith in
        sym (bad-next ws k (count_of ws - (k + 1))) ∙ rw more at t.good

    pub blocks-of : k < count_of ws → get_or ws (row_at k + 2) 0 ≤ 16
    blocks-of h = few-blocks _ _ _ _ (or_left _ _ (goods h))

    pub next-turn : {host' : Sdmmc} {place' : ℕ} {pen' : Pen} → k < count_of ws
        → host' ≡ host_after host ws k place → place' ≡ place + get_or ws (row_at k + 3) 0 → pen' ≡ written (line_of host ws k place) pen
        → Serving ws host₀ start (k + 1) host' place' pen'
    unfolding lines_from serve
    next-turn h he pe line =
        rw (he, pe)
        (record {
          reached = reached-next ws k place t.reached h;
          good = or_right (bad_asked (asked_at ws k 0)) _ (goods h);
          whole = rw (line, ← written_append) (rw (one-call ws k place t.reached h) at t.whole);
        })

    pub last_turn : count_of ws ≤ k → pen ≡ written (all ws host₀) start
    unfolding lines_from serve
    last_turn h = sym (written_nothing pen) ∙ rw (none_left ws k place t.reached h) at t.whole
