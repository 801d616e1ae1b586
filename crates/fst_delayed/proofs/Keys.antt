-- Elements of lists that are mapped.
use Rattle.std.proofs.Common.{inl, inr, List, [], ◌∷◌, map, ap}
use Rattle.fst_machine.specs.BreadthFirst.{Has}

pub Has-map : {X Y : Type 0} (f : X → Y) (xs : List X) (x : X) → Has xs x → Has (map f xs) (f x)
Has-map f [] x h = absurd h
Has-map f (z ∷ xs) x (inl e) = inl (ap f e)
Has-map f (z ∷ xs) x (inr h) = inr (Has-map f xs x h)
