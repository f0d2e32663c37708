-- What an initialisation finds, where it is accepted: a record that counts what SD has for its CSD and is protected as SD has it
-- there, with status zero.
use Rattle.std.specs.Prelude.{Result}
use Rattle.types.specs.declared.error.Error.{Error}
use Prim.Native.Nat.{ℕ, ◌*◌}
use mathlib.Core.List.{List}
use mathlib.Core.Path.{◌≡◌, refl}
use lib.ListN.{replicate}
use Rattle.types.specs.declared.card.Card.{Card}
use Rattle.types.specs.declared.clock.Clock.{Clock}
use Rattle.types.specs.declared.error.Field.{Field}
use Rattle.types.specs.declared.register.BlockCount.{BlockCount}
use Rattle.types.specs.Leaf.{count_of}
use Rattle.types.specs.Sd.{Code, means, wide_of, sd_capacity, Counts, Protects}
use Rattle.types.specs.Words.{halves_of}
use Rattle.types.proofs.Agree.{AsSd, has, has-none, capacity, protection}
use Rattle.tape.proofs.Values.{Gives, gives-refuse, gives-give, gives_then, gives-last, gives-guard}
use Rattle.init.specs.declared.settings.Settings.{Settings}
use Rattle.init.specs.Initialise.{card_of, with_scr, counted, select, identify, settle_card, init_card, initialise}

pub record Found (card : Card) : Type 0 where
  pub counts : Counts card
  pub protects : Protects card
  pub status : card.status ≡ replicate 16 0

-- a count is SD's
count-given : (csd : ℕ) → Gives BlockCount (λ blocks. sd_capacity csd ≡ means (blocks.0 * 512)) (counted (count_of csd))
count-given csd = by (capacity csd)
  where
    by : {field : Field} {a : Result BlockCount Error} {c : Code ℕ} → AsSd field a c → Gives BlockCount (λ blocks. c ≡ means (blocks.0 * 512)) (counted a)
    by (has n) = gives-give refl
    by has-none = gives-refuse

-- the flags are SD's, and stay so with an SCR
card-protects : (ocr rca : ℕ) (cid csd : List ℕ) (blocks : BlockCount) → Protects (card_of ocr rca cid csd blocks)
card-protects ocr rca cid csd blocks =
    let sd = protection (wide_of (halves_of csd)) in
    record { permanent = sd.0; temporary = sd.1 }

with-scr : (card : Card) (scr : ℕ) → Found card → Found (with_scr card scr)
with-scr card scr f =
    record {
      counts = f.counts;
      protects = record { permanent = f.protects.permanent; temporary = f.protects.temporary };
      status = f.status;
    }

select-given : (limit ocr rca : ℕ) (cid csd : List ℕ) → Gives Card Found (select limit ocr rca cid csd)
unfolding select
select-given limit ocr rca cid csd =
    gives-last _ (λ _. gives_then (count-given _) (λ blocks e. gives-last _ (λ _.
    gives-give (record { counts = e; protects = card-protects ocr rca cid csd blocks; status = refl }))))

identify-given : (limit ocr : ℕ) → Gives Card Found (identify limit ocr)
unfolding identify
identify-given limit ocr =
    gives-last _ (λ cid. gives-last _ (λ rca. gives-last _ (λ _. gives-last _ (λ csd. select-given limit ocr rca cid csd))))

-- what follows identification adds the SCR and nothing else
settle-given : (set : Settings) (frequency : ℕ) (card : Card) → Found card → Gives Card Found (settle_card set frequency card)
unfolding settle_card
settle-given set frequency card f =
    gives-last _ (λ scr. gives-last _ (λ _. gives-last _ (λ _. gives-last _ (λ _. gives-give (with-scr card scr f)))))

pub initialise-given : (set : Settings) (initial : Clock) (frequency : ℕ) → Gives Card Found (initialise set initial frequency)
unfolding initialise init_card
initialise-given set initial frequency =
    gives-guard _
    (gives-last _ (λ version2. gives-last _ (λ ocr. gives_then (identify-given _ ocr) (λ card f. settle-given set frequency card f))))
