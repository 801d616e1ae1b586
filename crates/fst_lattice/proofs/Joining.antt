-- Workers' passes and caches are joined.
use Rattle.std.proofs.Common.{◌≢◌, ℕ, ◌+◌, ◌<◌, List, ◌++◌, length, sym, ap, ◌∙◌, length-append, arith}
use Rattle.std.specs.List.{AllPairs, Contains}
use Rattle.std.proofs.lemmas.List.{get_or-append-add, get_or_append_left, length-map}
use Rattle.fst_machine.specs.BreadthFirst.{Has}
use Rattle.fst_machine.specs.Machine.{Arc}
use Rattle.fst_machine.proofs.Elements.{Has_at}
use Rattle.std.proofs.lemmas.Option.{get_or_from_slice_get}
use Rattle.fst_machine.proofs.Arcs.{at_mapped, mapped_at}
use Rattle.fst_delayed.specs.Caches.{Entries, keys}
use Rattle.fst_delayed.specs.Coding.{code_of}
use Rattle.fst_delayed.specs.Handed.{Name}
use Rattle.fst_lattice.specs.Serving.{codes}

-- of two lists in which no number stands twice, none has a number of the other
pub distinct_parts : (xs ys : List ℕ) (c : ℕ) → AllPairs (λ a b. a ≢ b) (xs ++ ys) → Contains xs c → Contains ys c → ⊥
distinct_parts xs ys c pairs h k =
    let low : h.0 < length xs = h.1 in
    let lower : k.0 < length ys = k.1 in
    pairs h.0 (length xs + k.0) c (omega (arith, low)) (omega (arith, lower, length-append xs ys))
    (get_or_append_left xs ys c h.0 low ∙ (h.2 ∙ sym (get_or-append-add xs ys k.0 c ∙ k.2)))

-- the code of a name that has an entry
pub code_there : {V : Type 0} (own : Entries V (Name ℕ ℕ)) (n : Name ℕ ℕ) → Has (keys own) n → Contains (codes own) (code_of n)
code_there {V} own n h =
    let at = Has_at (keys own) n h in
    let e = mapped_at (λ (x : Name ℕ ℕ × List (Arc V (Name ℕ ℕ))). x.0) own at.0 n at.1 in
    let there = at_mapped (λ (x : Name ℕ ℕ × List (Arc V (Name ℕ ℕ))). code_of x.0) own at.0 e.0 e.1 in (
      at.0,
      omega (arith, at.2, length-map own (λ (x : Name ℕ ℕ × List (Arc V (Name ℕ ℕ))). x.0), length-map own (λ (x : Name ℕ ℕ × List (Arc V (Name ℕ ℕ))). code_of x.0)),
      get_or_from_slice_get (codes own) at.0 (code_of e.0.0) (code_of n) there ∙ ap code_of e.2,
    )
