-- What is printed call by call, one piece after the other, is what is printed of the book.
use Prim.Native.Nat.{ℕ, ◌+◌, ◌*◌, ◌≤◌, ◌<◌, min}
use mathlib.Core.List.{List, [], ◌++◌}
use mathlib.Core.Option.{none, some}
use mathlib.Core.Path.{◌≡◌, refl, ap, sym, ◌∙◌}
use native.Mathlib.Omega.{arith}
use lib.ListN.{length, get_or}
use Rattle.host.specs.declared.host.Sdmmc.{Sdmmc}
use Rattle.host.specs.Calls.{made}
use Rattle.calls.specs.Serve as S
use Rattle.calls.specs.Serve.{comes}
use Rattle.std.specs.Prelude as P
use Rattle.book.specs.Layout as L
use Rattle.book.specs.Layout.{count_of, contents_of, book_in}
use Rattle.book.specs.Readers.{asked_at, call_asked}
use Rattle.book.proofs.Rows.{row_at}
use Rattle.book.proofs.Reached.{Reached, calls_left, body_within, all-calls, one-call, none_left}
use Rattle.bench.specs.Bench.{settings_of, call_of, where_accepted}
use Rattle.bench.specs.Opens.{head_of}
use Rattle.bench.specs.Trace.{bytes_at, place_after, call_at, call_text, calls_text, head_text, book_text}

-- what opening a book prints comes first; its calls follow where there is a host
pub first_piece : (ws : List ℕ) (room : ℕ)
    → book_text room (some (book_in ws))
    ≡ head_of (P.Some (length ws)) ws
    ++ where_accepted (made (settings_of (book_in ws))).answer (calls_text room 1 (made (settings_of (book_in ws))).host (calls_left ws 0 (contents_of ws)))
unfolding head_of
first_piece ws room =
    let m = made (settings_of (book_in ws)) in
    ap (λ (cs : List L.Call). head_text m ++ where_accepted m.answer (calls_text room 1 m.host cs)) (all-calls ws)

-- what is no book prints one line
pub no_book_piece : (ws : List ℕ) (room : ℕ) → book_text room none ≡ head_of P.None ws
unfolding head_of
no_book_piece ws room = refl

module _ (ws : List ℕ) (k place room : ℕ) (reached : Reached ws k place) (fits : room ≤ 4096) where
  pub last_piece : count_of ws ≤ k → (host : Sdmmc) → calls_text room (k + 1) host (calls_left ws k place) ≡ []
  unfolding calls_text
  last_piece h host = rw (none_left ws k place reached h)

  module _ (h : k < count_of ws) (few : (asked_at ws k place).b ≤ 16) where
    -- a call of the book keeps to 16 blocks and its room, and its body lies within the words
    pub bytes_of : bytes_at ws k place ≡ 512 * (asked_at ws k place).b
    bytes_of =
        let all : min (asked_at ws k place).b 16 ≡ (asked_at ws k place).b = omega arith in
        ap (λ (n : ℕ). 512 * n) all

    pub call-of : call_at ws k place room ≡ call_of room (call_asked ws (asked_at ws k place))
    call-of =
        let blocks : min (asked_at ws k place).b 16 ≡ (asked_at ws k place).b = omega arith in
        let rows : min room 4096 ≡ room = omega arith in
        rw (blocks, rows)

    pub place_of : place_after ws k place ≡ place + get_or ws (row_at k + 3) 0
    place_of = omega (arith, body_within ws k place reached h)

    pub one_piece : (host : Sdmmc)
        → calls_text room (k + 1) host (calls_left ws k place)
        ≡ call_text (k + 1) host (bytes_at ws k place) (call_at ws k place room)
        ++ calls_text room (k + 1 + 1) (comes host (call_at ws k place room)).host (calls_left ws (k + 1) (place_after ws k place))
    unfolding calls_text
    one_piece host =
        let piece : ℕ → S.Call → ℕ → List ℕ = λ bytes c next.
        call_text (k + 1) host bytes c ++ calls_text room (k + 1 + 1) (comes host c).host (calls_left ws (k + 1) next) in
        let c = call_of room (call_asked ws (asked_at ws k place)) in
        ap (calls_text room (k + 1) host) (one-call ws k place reached h)
        ∙ sym (ap (λ (n : ℕ). piece n (call_at ws k place room) (place_after ws k place)) bytes_of
        ∙ ap (λ (x : S.Call). piece (512 * (asked_at ws k place).b) x (place_after ws k place)) call-of
        ∙ ap (λ (n : ℕ). piece (512 * (asked_at ws k place).b) c n) place_of)
