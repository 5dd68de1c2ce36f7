-- What each event gives.
use Rattle.std.specs.Prelude.{ℕ, List, Option}
use Rattle.psd_base.specs.declared.console.Note.{Note}
use Rattle.psd_base.specs.declared.console.Order.{Order}
use Rattle.psd_base.specs.declared.line.Line.{Line}
use Rattle.psd_base.specs.Event.{Seen}
use Rattle.peripheral_filter.specs.declared.rule.RuleSet.{RuleSet}
use Rattle.switch_core.specs.declared.turn.Turn.{Turn}
use Rattle.port_model.specs.Lines.{line_at, line_with}
use Rattle.switch_core.specs.Notes.{notes_at}
use Rattle.switch_core.specs.Orders.{orders_at}

-- the line of the computer that acted, with its port; the orders to the console; and what the log says
pub record Gives : Type 0 where
  pub line : Option (ℕ × Line)
  pub orders : List Order
  pub notes : List Note

-- what an event gives after a history, at a switch with these rules
abbrev pub gives_at : RuleSet → Seen → List Seen → Gives
gives_at rules event past = record {
  line = line_at rules event past;
  orders = orders_at rules event past;
  notes = notes_at rules event past;
}

-- what the turn of an event holds
abbrev pub gives_of : Seen → Turn → Gives
gives_of event turn = record { line = line_with event turn.answer; orders = turn.orders.items; notes = turn.notes.items }
