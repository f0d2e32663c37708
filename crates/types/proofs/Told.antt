-- What the definitions give in the driver's enums is, as number and values, what document 01's leaf rules say.
use Prim.Native.Nat.{ℕ}
use mathlib.Core.Bool.{Bool, true, false, not, cond, ◌||◌, ◌&&◌}
use mathlib.Core.Path.{◌≡◌, refl}
use lib.Dec.{ltb, leb}
use borrow.Author.Tests.{ltb-true, ltb-false, le-leb, lt-leb}
use Rattle.types.specs.declared.card.CardCapacity.{CardCapacity}
use Rattle.types.specs.declared.card.CardCapacity.TheVariants.{SDSC, SDHC}
use Rattle.types.specs.declared.config.Config.{Config}
use Rattle.types.specs.Answer.{Told, field_number, error_told, clock_told, count_told, size_told, rate_told, address_told, config_told, data_told}
use Rattle.types.specs.Leaf.{clock_of, first_match, data_of, count_of, rate_of, units_of, address_of, size_of}
use Rattle.types.specs.Settings.{made_of}
use Rattle.types.specs.Rules.{clock_rule, data_rule, count_rule, rate_rule, units_rule, address_rule, size_rule, made_rule}

-- what is told of a choice
of_choice : {A : Type 0} (f : A → Told) (b : Bool) (x y : A) → f (cond b x y) ≡ cond b (f x) (f y)
of_choice f true x y = refl
of_choice f false x y = refl

-- a choice by either of two tests, or by the opposite of one
by-either : {A : Type 0} (a b : Bool) (x y : A) → cond (a || b) x y ≡ cond a x (cond b x y)
by-either true b x y = refl
by-either false b x y = refl

by-not : {A : Type 0} (b : Bool) (x y : A) → cond (not b) x y ≡ cond b y x
by-not true x y = refl
by-not false x y = refl

pub clock : (source requested : ℕ) (bypass : Bool) → clock_told (clock_of source requested bypass) ≡ clock_rule source requested bypass
unfolding clock_of clock_told error_told clock_rule
clock source requested bypass = simp (of_choice clock_told, by-either)

pub status : (word : ℕ) → data_told (data_of word) ≡ data_rule word
unfolding data_of first_match data_told error_told data_rule
status word = simp (of_choice data_told, by-not)

-- 9 to 11, or below or above
from_9_to_11 : (l : ℕ) → (leb 9 l && leb l 11) ≡ not (ltb l 9 || ltb 11 l)
from_9_to_11 l = by (ltb l 9) (ltb 11 l) refl refl
  where
    by : (below above : Bool) → ltb l 9 ≡ below → ltb 11 l ≡ above → (leb 9 l && leb l 11) ≡ not (below || above)
    by true above b a = rw (lt-leb 9 l (ltb-true l 9 b))
    by false true b a = rw (lt-leb l 11 (ltb-true 11 l a), le-leb 9 l (ltb-false l 9 b))
    by false false b a = rw (le-leb l 11 (ltb-false 11 l a), le-leb 9 l (ltb-false l 9 b))

pub count : (csd : ℕ) → count_told (count_of csd) ≡ count_rule csd
unfolding count_of count_told error_told field_number count_rule
count csd = simp (of_choice count_told, from_9_to_11, by-not)

pub rate : (byte : ℕ) → rate_told (rate_of byte) ≡ rate_rule byte
unfolding rate_of rate_told error_told field_number rate_rule
rate byte = simp (of_choice rate_told)

units : (class : CardCapacity) (index : ℕ) → address_told (units_of class index) ≡ units_rule class index
unfolding units_of address_told error_told units_rule
units SDSC index = simp (of_choice address_told)
units SDHC index = refl

pub address : (class : CardCapacity) (blocks index count : ℕ)
    → address_told (address_of class blocks index count) ≡ address_rule class blocks index count
unfolding address_of address_told error_told address_rule
address class blocks index count = simp (of_choice address_told, units)

pub size : (count : ℕ) → size_told (size_of count) ≡ size_rule count
unfolding size_of size_told error_told size_rule
size count = simp (of_choice size_told)

pub settings : (source : ℕ) (config : Config) → config_told (made_of source config) ≡ made_rule source config
unfolding made_of config_told error_told made_rule
settings source config = simp (of_choice config_told)
