-- How a call ends: the answer, the next host, and the words that it gives. Whether a refusal keeps the record is where it comes.
use Rattle.std.specs.Prelude.{ℕ, true, false, List, []}
use Rattle.types.specs.declared.card.Card.{Card}
use Rattle.types.specs.declared.error.Answer.{Answer}
use Rattle.types.specs.declared.error.Answer.TheVariants as Answered
use Rattle.types.specs.Words.{sd_status_of}
use Rattle.tape.specs.declared.progress.Line.{Line}
use Rattle.tape.specs.Plan.{Plan, Cause, give, look}
use Rattle.init.specs.Initialise.{no_card}
use Rattle.host.specs.declared.host.Sdmmc.{Sdmmc}
use Rattle.host.specs.Calls.{answer_for, host_of, with_status}

pub record Closing : Type 0 where
  pub answer : Answer
  pub host : Sdmmc
  pub taken : List ℕ

abbrev pub closing : Answer → Sdmmc → List ℕ → Closing
closing answer host taken = record { answer = answer; host = host; taken = taken }

module _ (host : Sdmmc) where
  -- a refusal: the record stays, or there is none
  unfoldable pub keeping : Cause → Plan Closing
  keeping c = look (λ line. give (closing (answer_for c) (host_of host.settings line host.known host.card) []))

  unfoldable pub dropping : Cause → Plan Closing
  dropping c = look (λ line. give (closing (answer_for c) (host_of host.settings line false no_card) []))

  -- a card was found; words were read
  unfoldable pub finding : Card → Plan Closing
  finding card = look (λ line. give (closing Answered.Accepted (host_of host.settings line true card) []))

  unfoldable pub accepting : (Line → List ℕ → Sdmmc) → List ℕ → Plan Closing
  accepting next ws = look (λ line. give (closing Answered.Accepted (next line ws) ws))

  -- the next host of a read or a write, and that of a status call
  abbrev pub blocks_host : Line → List ℕ → Sdmmc
  blocks_host line ws = host_of host.settings line host.known host.card

  abbrev pub status_host : Line → List ℕ → Sdmmc
  status_host line ws = host_of host.settings line true (with_status host.card (sd_status_of ws))
