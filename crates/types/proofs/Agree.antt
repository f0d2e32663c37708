-- Document 01's arithmetic agrees with SD's fields: capacity, rate, address and write protection follow the SD specification.
use Rattle.std.specs.Prelude.{Result, Ok, Err}
use Rattle.types.specs.declared.register.BlockCount.{BlockCount}
use Prim.Native.Nat.{ℕ, zero, suc, ◌+◌, ◌*◌, ◌-◌, ◌/◌, ◌^◌, ◌<◌, ◌≤◌}
use mathlib.Core.Bool.{Bool, true, false, cond, ◌||◌}
use mathlib.Core.List.{List, [], ◌∷◌, map}
use mathlib.Core.Path.{◌≡◌, refl, ap, sym, ◌∙◌}
use native.Mathlib.Nat.{zero-add, mod-lt, mul_assoc, mul_right_comm, mul-div_left, sub-add_cancel}
use native.Mathlib.Omega.{arith}
use lib.Dec.{eqb, ltb, lit<}
use lib.ListN.{get_or}
use lib.Pow.{pow-add, shr-shr}
use borrow.Author.Tests.{eqb-false, ltb-true, ltb-false, lt-ltb, le-ltb, ne_eqb}
use Rattle.types.specs.declared.card.CardCapacity.{CardCapacity}
use Rattle.types.specs.declared.card.CardCapacity.TheVariants.{SDSC, SDHC}
use Rattle.types.specs.declared.error.Error.{Error}
use Rattle.types.specs.declared.error.Error.TheVariants.{UnsupportedCardType, InvalidBufferLength, AddressOutOfRange}
use Rattle.types.specs.declared.error.Field.{Field}
use Rattle.types.specs.declared.error.Field.TheVariants.{CsdVersion, BlockLength, RateUnit, RateValue, RateReservedBit}
use Rattle.types.specs.Answer.{flag}
use Rattle.types.specs.Bits.{bits, bit}
use Rattle.types.specs.Leaf.{count_of, rate_of, rate_units, rate_tenths, units_of, address_of, protection_of, protect_number}
use Rattle.types.specs.Sd.{Code, reserved, means, code_in, Version, version1, version2, csd_structure, structures, read_bl_len, block_lengths, c_size1, c_size_mult, c_size2, bytes1, bytes2, bytes_by, capacity_by, sd_capacity, is_reserved, length_fault, at_fault, first_fault}
use Rattle.types.specs.Sd.{perm_write_protect, tmp_write_protect}
use Rattle.types.specs.Sd.{wide_of, tran_speed, transfer_units, time_values, rate_by, sd_rate, unit_bytes, error_places, locked_places, app_places, short_error_places}
use Rattle.types.specs.Words.{counted, halves_of}
use Rattle.types.proofs.Counted.{get_d_counted}

-- A field's codes: where SD's list is what a rule says of each code from 0 on, the rule says what SD has at any of them.
listed : {A : Type 0} (codes : List (Code A)) (rule : ℕ → Code A) (n : ℕ) → codes ≡ map rule (counted 0 n) → (k : ℕ) → k < n → code_in codes k ≡ rule k
listed codes rule n e k h = rw e (get_d_counted rule 0 n k reserved h ∙ ap rule (zero-add k))

-- Capacity.

by-structure : ℕ → Code Version
by-structure k = cond (eqb k 0) (means version1) (cond (eqb k 1) (means version2) reserved)

by_length : Version → ℕ → Code ℕ
by_length version1 l = cond (ltb l 9 || ltb 11 l) reserved (means (2 ^ l))
by_length version2 l = cond (eqb l 9) (means (2 ^ l)) reserved

structure-codes : structures ≡ map by-structure (counted 0 4)
unfolding by-structure counted
structure-codes = refl

length-codes : (version : Version) → block_lengths version ≡ map (by_length version) (counted 0 16)
unfolding by_length counted
length-codes version1 = refl
length-codes version2 = refl

-- a block length of 2 ^ l bytes, l from 9 on, is 2 ^ (l - 9) blocks of 512
whole-blocks : (n m l : ℕ) → 9 ≤ l → n * 2 ^ m * 2 ^ l ≡ n * 2 ^ (m + (l - 9)) * 512
whole-blocks n m l h =
    let whole : 2 ^ l ≡ 2 ^ (l - 9) * 512 = ap (λ (k : ℕ). 2 ^ k) (sym (sub-add_cancel h)) ∙ pow-add 2 (l - 9) 9 in
    ap (λ (x : ℕ). n * 2 ^ m * x) whole
    ∙ sym (mul_assoc (n * 2 ^ m) (2 ^ (l - 9)) 512)
    ∙ ap (λ (x : ℕ). x * 512) (mul_assoc n (2 ^ m) (2 ^ (l - 9)) ∙ ap (λ (x : ℕ). n * x) (sym (pow-add 2 m (l - 9))))

half_megabytes : (n : ℕ) → n * (512 * 1024) ≡ n * 1024 * 512
half_megabytes n = omega arith

abbrev blocks : ℕ → Result BlockCount Error
blocks n = Ok (record { 0 = n })

abbrev refused : Field → Result BlockCount Error
refused field = Err (UnsupportedCardType field)

-- an answer, and SD's capacity: so many blocks where SD has so many times 512 bytes; refused, with this field, where SD has none
pub data AsSd (field : Field) : Result BlockCount Error → Code ℕ → Type 0 where
  has : (n : ℕ) → AsSd field (blocks n) (means (n * 512))
  has-none : AsSd field (refused field) reserved

as_many : {field : Field} (n : ℕ) {bytes : ℕ} → bytes ≡ n * 512 → AsSd field (blocks n) (means bytes)
as_many n e = rw e (has n)

module _ (csd : ℕ) where
  abbrev length_code : Version → Code ℕ
  length_code version = code_in (block_lengths version) (read_bl_len csd)

  length-is : (version : Version) → length_code version ≡ by_length version (read_bl_len csd)
  length-is version = listed (block_lengths version) (by_length version) 16 (length-codes version) (read_bl_len csd) (omega arith)

  abbrev count1 : Result BlockCount Error
  count1 = blocks ((c_size1 csd + 1) * 2 ^ (c_size_mult csd + 2 + (read_bl_len csd - 9)))

  abbrev count2 : Result BlockCount Error
  count2 = blocks ((c_size2 csd + 1) * 1024)

  version_1 : AsSd BlockLength (cond (ltb (read_bl_len csd) 9 || ltb 11 (read_bl_len csd)) (refused BlockLength) count1) (bytes_by csd version1 (length_code version1))
  unfolding bytes_by bytes1 by_length
  version_1 = rw (length-is version1) (by (ltb (read_bl_len csd) 9) (ltb 11 (read_bl_len csd)) refl)
    where
      by : (short long : Bool) → ltb (read_bl_len csd) 9 ≡ short
          → AsSd BlockLength (cond (short || long) (refused BlockLength) count1) (bytes_by csd version1 (cond (short || long) reserved (means (2 ^ read_bl_len csd))))
      by true long t = has-none
      by false true t = has-none
      by false false t = as_many _ (whole-blocks (c_size1 csd + 1) (c_size_mult csd + 2) (read_bl_len csd) (ltb-false (read_bl_len csd) 9 t))

  version_2 : AsSd BlockLength (cond (eqb (read_bl_len csd) 9) count2 (refused BlockLength)) (bytes_by csd version2 (length_code version2))
  unfolding bytes_by bytes2 by_length
  version_2 = rw (length-is version2) (by (eqb (read_bl_len csd) 9))
    where
      by : (nine : Bool) → AsSd BlockLength (cond nine count2 (refused BlockLength)) (bytes_by csd version2 (cond nine (means (2 ^ read_bl_len csd)) reserved))
      by true = as_many _ (half_megabytes (c_size2 csd + 1))
      by false = has-none

  -- THE CAPACITY IS SD'S, for every register, and refused exactly where SD has none
  pub capacity : AsSd (first_fault csd) (count_of csd) (sd_capacity csd)
  unfolding count_of sd_capacity capacity_by at_fault is_reserved by-structure
  capacity =
      rw (listed structures by-structure 4 structure-codes (csd_structure csd) (mod-lt (csd / 2 ^ 126) (lit< {n = 4} tt)))
      (by (eqb (csd_structure csd) 0) (eqb (csd_structure csd) 1))
    where
      by : (one two : Bool)
          → AsSd (cond (is_reserved (cond one (means version1) (cond two (means version2) reserved))) CsdVersion BlockLength)
          (cond one (cond (ltb (read_bl_len csd) 9 || ltb 11 (read_bl_len csd)) (refused BlockLength) count1)
          (cond two (cond (eqb (read_bl_len csd) 9) count2 (refused BlockLength)) (refused CsdVersion)))
          (capacity_by csd (cond one (means version1) (cond two (means version2) reserved)))
      by true two = version_1
      by false true = version_2
      by false false = has-none

-- Rate.

by-unit : ℕ → Code ℕ
by-unit k = cond (ltb 3 k) reserved (means (get_or rate_units k 0 / 1_000))

by_value : ℕ → Code ℕ
by_value k = cond (eqb k 0) reserved (means (get_or rate_tenths k 0))

unit-codes : transfer_units ≡ map by-unit (counted 0 8)
unfolding by-unit counted
unit-codes = refl

value-codes : time_values ≡ map by_value (counted 0 16)
unfolding by_value counted
value-codes = refl

-- the units are whole kilobits
tens : (k : ℕ) → get_or rate_units k 0 / 10 ≡ 100 * (get_or rate_units k 0 / 1_000)
tens zero = refl
tens (suc zero) = refl
tens (suc (suc zero)) = refl
tens (suc (suc (suc zero))) = refl
tens (suc (suc (suc (suc k)))) = refl

scaled : (a t : ℕ) → 100 * a * t ≡ a * 1_000 * t / 10
scaled a t =
    let ten : a * 1_000 ≡ 100 * a * 10 = omega arith in
    sym (ap (λ (x : ℕ). x * t / 10) ten ∙ ap (λ (x : ℕ). x / 10) (mul_right_comm (100 * a) 10 t) ∙ mul-div_left (100 * a * t) (lit< {n = 10} tt))

pub rate : (byte : ℕ) → rate_of byte ≡ sd_rate byte
unfolding rate_of sd_rate rate_by by-unit by_value
rate byte =
    rw (
      listed transfer_units by-unit 8 unit-codes (bits byte 2 0) (omega arith),
      listed time_values by_value 16 value-codes (bits byte 6 3) (omega arith),
    )
    (by (bit byte 7) (ltb 3 (bits byte 2 0)) (eqb (bits byte 6 3) 0))
  where
    unit : ℕ
    unit = get_or rate_units (bits byte 2 0) 0

    tenths : ℕ
    tenths = get_or rate_tenths (bits byte 6 3) 0

    by : (top over none : Bool)
        → cond top (Err (UnsupportedCardType RateReservedBit))
        (cond over (Err (UnsupportedCardType RateUnit))
        (cond none (Err (UnsupportedCardType RateValue)) (Ok (unit / 10 * tenths))))
        ≡ cond top (Err (UnsupportedCardType RateReservedBit))
        (rate_by (cond over reserved (means (unit / 1_000))) (cond none reserved (means tenths)))
    by true over none = refl
    by false true none = refl
    by false false true = refl
    by false false false =
        ap Ok (ap (λ (x : ℕ). x * tenths) (tens (bits byte 2 0)) ∙ scaled (unit / 1_000) tenths)

-- Fields: a capacity is refused for its version or its block length, a rate for one of its three fields, and for nothing else;
-- and what it is refused for is at fault by SD's codes.

pub data CountFault (csd : ℕ) : Error → Type 0 where
  of-version : at_fault CsdVersion csd ≡ true → CountFault csd (UnsupportedCardType CsdVersion)
  of_length : at_fault BlockLength csd ≡ true → CountFault csd (UnsupportedCardType BlockLength)

-- refused, then SD has none, and the field is that one
refused_as : {field : Field} {a : Result BlockCount Error} {c : Code ℕ} {e : Error} → AsSd field a c → a ≡ Err e
    → (UnsupportedCardType field ≡ e) × (c ≡ reserved)
refused_as (has n) r = let z : ◌≡◌ {A = ℕ} 0 1 = cc in absurd (omega arith)
refused_as has-none r = (cc, refl)

pub count_fault : (csd : ℕ) (e : Error) → count_of csd ≡ Err e → CountFault csd e
unfolding sd_capacity capacity_by bytes_by at_fault length_fault is_reserved
count_fault csd e r =
    let f = refused_as (capacity csd) r in
    rw (← f.0) (by (code_in structures (csd_structure csd)) refl f.1)
  where
    length : (version : Version) (code : Code ℕ) → bytes_by csd version code ≡ reserved → is_reserved code ≡ true
    length version reserved r = refl
    length version1 (means n) r = let z : ◌≡◌ {A = ℕ} 0 1 = cc in absurd (omega arith)
    length version2 (means n) r = let z : ◌≡◌ {A = ℕ} 0 1 = cc in absurd (omega arith)

    by : (code : Code Version) → code_in structures (csd_structure csd) ≡ code → capacity_by csd code ≡ reserved
        → CountFault csd (UnsupportedCardType (cond (is_reserved code) CsdVersion BlockLength))
    by reserved c r = of-version (rw c)
    by (means version) c r = of_length (rw c (length version (code_in (block_lengths version) (read_bl_len csd)) r))

pub data RateFault (csd : ℕ) : Error → Type 0 where
  of-reserved-bit : at_fault RateReservedBit csd ≡ true → RateFault csd (UnsupportedCardType RateReservedBit)
  of-unit : at_fault RateUnit csd ≡ true → RateFault csd (UnsupportedCardType RateUnit)
  of-value : at_fault RateValue csd ≡ true → RateFault csd (UnsupportedCardType RateValue)

pub rate_fault : (csd : ℕ) (e : Error) → rate_of (tran_speed csd) ≡ Err e → RateFault csd e
unfolding sd_rate rate_by at_fault is_reserved
rate_fault csd e r = by (bit (tran_speed csd) 7) refl (sym (rate (tran_speed csd)) ∙ r)
  where
    codes : (unit value : Code ℕ) → code_in transfer_units (bits (tran_speed csd) 2 0) ≡ unit → code_in time_values (bits (tran_speed csd) 6 3) ≡ value
        → rate_by unit value ≡ Err e → RateFault csd e
    codes reserved value u v r = let same : UnsupportedCardType RateUnit ≡ e = cc in rw (← same) (of-unit (rw u))
    codes (means k) reserved u v r = let same : UnsupportedCardType RateValue ≡ e = cc in rw (← same) (of-value (rw v))
    codes (means k) (means t) u v r = let z : ◌≡◌ {A = ℕ} 0 1 = cc in absurd (omega arith)

    by : (top : Bool) → bit (tran_speed csd) 7 ≡ top
        → cond top (Err (UnsupportedCardType RateReservedBit))
        (rate_by (code_in transfer_units (bits (tran_speed csd) 2 0)) (code_in time_values (bits (tran_speed csd) 6 3)))
        ≡ Err e → RateFault csd e
    by true t r = let same : UnsupportedCardType RateReservedBit ≡ e = cc in rw (← same) (of-reserved-bit t)
    by false t r = codes (code_in transfer_units (bits (tran_speed csd) 2 0)) (code_in time_values (bits (tran_speed csd) 6 3)) refl refl r

-- Address: accepted exactly where 1 to 511 blocks are asked for, all on the card, and what stands for the bytes before the
-- first of them, in SD's unit, fits 32 bits as the index does; and then it is that.

pub record Follows (class : CardCapacity) (blocks index count address : ℕ) : Type 0 where
  pub place : address * unit_bytes class ≡ 512 * index
  pub fits : index < 2 ^ 32 → address < 2 ^ 32
  pub some : 1 ≤ count
  pub most : count ≤ 511
  pub inside : index + count ≤ blocks

positive : {n : ℕ} → (n ≡ 0 → ⊥) → 1 ≤ n
positive {n = zero} h = absurd (h refl)
positive {n = suc n} h = omega arith

units : (class : CardCapacity) (index a : ℕ) → units_of class index ≡ Ok a
    → (a * unit_bytes class ≡ 512 * index) × (index < 2 ^ 32 → a < 2 ^ 32)
unfolding units_of
units SDSC index a e = by (ltb (512 * index) (2 ^ 32)) refl e
  where
    by : (b : Bool) → ltb (512 * index) (2 ^ 32) ≡ b → cond b (Ok (512 * index)) (Err AddressOutOfRange) ≡ Ok a
        → (a * 1 ≡ 512 * index) × (index < 2 ^ 32 → a < 2 ^ 32)
    by true t e = let same : 512 * index ≡ a = cc in let small = ltb-true (512 * index) (2 ^ 32) t in (omega arith, λ word. omega arith)
    by false t e = let z : ◌≡◌ {A = ℕ} 0 1 = cc in absurd (omega arith)
units SDHC index a e = let same : index ≡ a = cc in (omega arith, λ word. omega arith)

pub address : (class : CardCapacity) (blocks index count a : ℕ) → address_of class blocks index count ≡ Ok a
    → Follows class blocks index count a
unfolding address_of
address class blocks index count a e = by (eqb count 0) (ltb 511 count) (ltb blocks (index + count)) refl refl refl e
  where
    by : (none many past : Bool) → eqb count 0 ≡ none → ltb 511 count ≡ many → ltb blocks (index + count) ≡ past
        → cond (none || many) (Err InvalidBufferLength) (cond past (Err AddressOutOfRange) (units_of class index)) ≡ Ok a
        → Follows class blocks index count a
    by true many past n m p e = let z : ◌≡◌ {A = ℕ} 0 1 = cc in absurd (omega arith)
    by false true past n m p e = let z : ◌≡◌ {A = ℕ} 0 1 = cc in absurd (omega arith)
    by false false true n m p e = let z : ◌≡◌ {A = ℕ} 0 1 = cc in absurd (omega arith)
    by false false false n m p e =
        let unit = units class index a e in
        record {
          place = unit.0;
          fits = unit.1;
          some = positive (eqb-false count 0 n);
          most = ltb-false 511 count m;
          inside = ltb-false blocks (index + count) p;
        }

-- and the other way, for an index of 32 bits
in_units : (class : CardCapacity) (index a : ℕ) → a * unit_bytes class ≡ 512 * index → a < 2 ^ 32 → units_of class index ≡ Ok a
unfolding units_of
in_units SDSC index a e small = let same : 512 * index ≡ a = omega arith in rw (same, lt-ltb a (2 ^ 32) small)
in_units SDHC index a e small = let same : index ≡ a = omega arith in ap Ok same

pub address-accepted : (class : CardCapacity) (blocks index count a : ℕ) → index < 2 ^ 32 → Follows class blocks index count a
    → address_of class blocks index count ≡ Ok a
unfolding address_of
address-accepted class blocks index count a word f =
    rw (
      ne_eqb count 0 (λ e. omega (arith, f.some)),
      le-ltb 511 count f.most,
      le-ltb blocks (index + count) f.inside,
    )
    (in_units class index a f.place (f.fits word))

-- Write protection: the flags are SD's, and their number is the two bits, the permanent one on top.

pub protection : (csd : ℕ) → ((protection_of csd).permanent ≡ perm_write_protect csd) × ((protection_of csd).temporary ≡ tmp_write_protect csd)
unfolding protection_of
protection csd = (refl, refl)

as_number : (n : ℕ) → n < 2 → flag (eqb n 1) ≡ n
as_number zero h = refl
as_number (suc zero) h = refl
as_number (suc (suc n)) h = absurd (omega arith)

pub protect-number : (csd : ℕ) → protect_number (protection_of csd) ≡ bits csd 13 12
unfolding protection_of
protect-number csd =
    let half : csd / 2 ^ 12 / 2 ≡ csd / 2 ^ 13 = shr-shr csd 12 1 in
    rw (as_number (bits csd 13 13) (omega arith), as_number (bits csd 12 12) (omega arith)) (omega (arith, half))

-- Masks: document 01's masks of the card status are SD's places.

abbrev mask_of : List ℕ → ℕ
mask_of [] = 0
mask_of (k ∷ ks) = 2 ^ k + mask_of ks

pub masks : map mask_of (error_places ∷ locked_places ∷ app_places ∷ short_error_places ∷ [])
    ≡ 0xfdff_e008 ∷ 0x0200_0000 ∷ 0x20 ∷ 0xe000 ∷ []
masks = refl

-- Registers: the halves of a long response are the 128-bit register with its first word on top.

pub register : (words : List ℕ)
    → wide_of (halves_of words) ≡ get_or words 0 0 * 2 ^ 96 + get_or words 1 0 * 2 ^ 64 + get_or words 2 0 * 2 ^ 32 + get_or words 3 0
unfolding halves_of
register words = omega arith
