-- What two caches have together.
use Rattle.std.proofs.Common.{◌≡◌, ⊎_elim, List, ◌++◌, Option, None, Some, map, subst}
use Rattle.std.specs.Prelude.{MatchOption}
use Rattle.std.proofs.lemmas.List.{map-append}
use Rattle.fst_semiring.specs.Cost.{Cost}
use Rattle.fst_machine.specs.BreadthFirst.{Has}
use Rattle.fst_machine.specs.Graph.{Graph}
use Rattle.fst_machine.specs.Machine.{Arc}
use Rattle.fst_machine.proofs.Elements.{Has-append_cases, Has-append_right}
use Rattle.fst_walk.specs.Names.{key_arc}
use Rattle.fst_delayed.specs.Caches.{Entries, IsTrueOf, keys}
use Rattle.fst_delayed.proofs.Keys.{Has-map}
use Rattle.fst_lattice.proofs.Jobs.{Has-All}

module _ {V N : Type 0} where
  -- an entry of the second, where the first has none
  pub held_second : (cache own : Entries V N) (n : N) {R : Type 0} (arcs : R → List (Arc V N)) (o : Option R) → (Has (keys cache) n → ⊥) → MatchOption o (Has (keys own) n → ⊥) (λ r. Has own (n, arcs r))
      → MatchOption o (Has (keys cache ++ keys own) n → ⊥) (λ r. Has (cache ++ own) (n, arcs r))
  held_second cache own n arcs None absent h = λ k. ⊎_elim (λ (l : Has (keys cache) n). absent l) (λ (r : Has (keys own) n). h r) (Has-append_cases (keys cache) (keys own) n k)
  held_second cache own n arcs (Some r) absent h = Has-append_right cache own (n, arcs r) h

  pub held_key : (cache own : Entries V N) (n : N) (arcs : List (Arc V N)) → Has (cache ++ own) (n, arcs) → Has (keys cache ++ keys own) n
  held_key cache own n arcs h = subst (λ ns. Has ns n) (map-append (λ (e : N × List (Arc V N)). e.0) cache own) (Has-map (λ (e : N × List (Arc V N)). e.0) (cache ++ own) (n, arcs) h)

  pub held_true : (value : V → Cost) (g : Graph N) (entries : Entries V N) → IsTrueOf value g entries → (n : N) (arcs : List (Arc V N)) → Has entries (n, arcs) → map (key_arc value) arcs ≡ g.arcs n
  held_true value g entries all n arcs h = Has-All (λ (e : N × List (Arc V N)). map (key_arc value) e.1 ≡ g.arcs e.0) entries (n, arcs) all h
