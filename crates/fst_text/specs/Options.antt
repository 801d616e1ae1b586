-- The choices between the forms of a text.
use Rattle.std.specs.Prelude.{Bool, List, Option, IfSome}
use Rattle.fst_symbols.specs.Symbols.{IsTable, Symbol}

-- Whether an arc has one label, whether written state numbers stand, whether a weight One is printed, and
-- the symbol tables of the input and of the output labels.
pub record Options : Type 0 where
  pub acceptor : Bool
  pub keep_state_numbering : Bool
  pub show_weight_one : Bool
  pub isymbols : Option (List Symbol)
  pub osymbols : Option (List Symbol)

-- The symbols of either side are a table.
pub record HasTables (options : Options) : Type 0 where
  pub input : IfSome options.isymbols IsTable
  pub output : IfSome options.osymbols IsTable
