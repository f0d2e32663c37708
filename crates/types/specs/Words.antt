-- Words as bytes and as registers: data words are little-endian, the card's own registers are sent with their top byte
-- first.
use Rattle.std.specs.Prelude.{ℕ, zero, suc, ◌+◌, ◌*◌, ◌-◌, ◌/◌, ◌%◌, ◌^◌, min, List, [], ◌∷◌, ◌++◌, map, length, get_or, take, drop}
use Rattle.types.specs.declared.register.Wide.{Wide}

-- a word's four bytes, the lowest first
abbrev pub bytes4 : ℕ → List ℕ
bytes4 w = w % 256 ∷ w / 2 ^ 8 % 256 ∷ w / 2 ^ 16 % 256 ∷ w / 2 ^ 24 % 256 ∷ []

unfoldable pub bytes_of : List ℕ → List ℕ
bytes_of [] = []
bytes_of (w ∷ ws) = bytes4 w ++ bytes_of ws

-- and back: four bytes as a word, and as many words as the bytes have whole ones
abbrev pub word4 : ℕ → ℕ → ℕ → ℕ → ℕ
word4 a b c d = a + b * 2 ^ 8 + c * 2 ^ 16 + d * 2 ^ 24

unfoldable pub words_of : List ℕ → List ℕ
words_of [] = []
words_of (a ∷ []) = []
words_of (a ∷ b ∷ []) = []
words_of (a ∷ b ∷ c ∷ []) = []
words_of (a ∷ b ∷ c ∷ d ∷ bytes) = word4 a b c d ∷ words_of bytes

-- bytes with words laid over their start, as far as whole words go
unfoldable pub filled : List ℕ → List ℕ → List ℕ
filled words bytes =
    let n = min (length words) (length bytes / 4) in
    bytes_of (take n words) ++ drop (4 * n) bytes

-- a word with its bytes turned round
abbrev pub turned : ℕ → ℕ
turned w = w % 256 * 2 ^ 24 + w / 2 ^ 8 % 256 * 2 ^ 16 + w / 2 ^ 16 % 256 * 2 ^ 8 + w / 2 ^ 24 % 256

-- n numbers from a on
unfoldable pub counted : ℕ → ℕ → List ℕ
counted a zero = []
counted a (suc n) = a ∷ counted (a + 1) n

-- the SD status: inner[i] is word 15 - i, bytes turned round
unfoldable pub sd_status_of : List ℕ → List ℕ
sd_status_of words = map (λ i. turned (get_or words (15 - i) 0)) (counted 0 16)

-- the four words of a long response as two halves, the first word on top
unfoldable pub halves_of : List ℕ → Wide
halves_of words =
    record {
      high = get_or words 0 0 * 2 ^ 32 + get_or words 1 0;
      low = get_or words 2 0 * 2 ^ 32 + get_or words 3 0;
    }

-- the SCR's two words: the first on top, bytes turned round
unfoldable pub scr_of : ℕ → ℕ → ℕ
scr_of first second = turned first * 2 ^ 32 + turned second
