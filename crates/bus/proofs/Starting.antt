-- How a data phase begins, from what its steps did: a read's, and a write's.
use Prim.Native.Nat.{ℕ}
use mathlib.Core.List.{List}
use mathlib.Core.Bool.{true, false}
use Rattle.types.specs.declared.config.Config.{Config}
use Rattle.tape.specs.Rows.{DCTRL, dctrl_of}
use Rattle.tape.specs.Run.{State, Did}
use Rattle.tape.specs.Steps.{row, send_words}
use Rattle.tape.proofs.Laws.{seq, stay}
use Rattle.bus.specs.declared.transfer.Transfer.{Transfer}
use Rattle.bus.specs.Transfer.{incoming, outgoing, ready_data, order_data, before_command, after_command, start_data}

module _ (s : List ℕ) (config : Config) (transfer : Transfer) where
  pub reads_begin : {w₀ w₁ w₂ w₃ : State} → Did s (ready_data config transfer) w₀ w₁ → Did s (row DCTRL (dctrl_of true transfer.block_size)) w₁ w₂
      → Did s (order_data config transfer) w₂ w₃ → Did s (start_data config incoming transfer) w₀ w₃
  unfolding start_data before_command after_command
  reads_begin ready control order = seq ready (seq control (seq order stay))

  pub sends_begin : {w₀ w₁ w₂ w₃ w₄ : State} (ws : List ℕ) → Did s (ready_data config transfer) w₀ w₁ → Did s (order_data config transfer) w₁ w₂
      → Did s (row DCTRL (dctrl_of false transfer.block_size)) w₂ w₃ → Did s (send_words ws transfer.words) w₃ w₄
      → Did s (start_data config (outgoing ws) transfer) w₀ w₄
  unfolding start_data before_command after_command
  sends_begin ws ready order control sent = seq ready (seq stay (seq order (seq control sent)))
