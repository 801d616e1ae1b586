-- The names of the arc types, as they stand in files, in options and in messages.
use Rattle.std.specs.Prelude.{ℕ, List, [], ◌∷◌, codes, Option, bytes_eq}
use Rattle.std.specs.List.{find}
use Rattle.fst_semiring.specs.declared.arc_type.ArcType.{ArcType}
use Rattle.fst_semiring.specs.declared.arc_type.ArcType.TheVariants.{Boolean, Tropical, MinMax, Lexicographic}

-- the name of an arc type
abbrev pub name_of : ArcType → List ℕ
name_of Boolean = codes "boolean"
name_of Tropical = codes "tropical"
name_of MinMax = codes "minmax"
name_of Lexicographic = codes "lexicographic"

-- the arc types
abbrev pub known : List ArcType
known = Boolean ∷ Tropical ∷ MinMax ∷ Lexicographic ∷ []

-- the arc type with this name
abbrev pub named : List ℕ → Option ArcType
named name = find (λ kind. bytes_eq (name_of kind) name) known
