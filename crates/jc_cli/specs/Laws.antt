-- The law of the command line, which `laws` states.
use Rattle.std.specs.Prelude.{◌≡◌, List, ◌∷◌, Some}
use Rattle.clap.specs.Words.{Text}
use Rattle.jc_cli.specs.Arguments.{words_order, IsFaultless}
use Rattle.jc_cli.specs.declared.order.Order.{Order}

-- Arguments without a fault are a command.
abbrev pub FaultlessAreOrders : Type 0
FaultlessAreOrders =
    (word : Text) (words : List Text) → IsFaultless (word ∷ words)
    → (order : Order) × (words_order (word ∷ words) ≡ Some order)
