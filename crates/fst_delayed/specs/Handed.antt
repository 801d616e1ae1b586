-- What a crate above needs of compositions, without a way to expand a name but the delayed one.
pub use Rattle.fst_compose.specs.Names.{Name}
pub use Rattle.fst_compose.specs.Moves.{transitions}
pub use Rattle.fst_compose.specs.NameLaws.{IsNameBelow, Keeps}
pub use Rattle.fst_compose.specs.Good.{same_decides, same_name}
