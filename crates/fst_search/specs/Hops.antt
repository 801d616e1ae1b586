-- What a search of distances follows: hops between states, each along an arc or back along one. Paths are told from
-- their end, the last hop first, as the links of a search tell them.
use Rattle.std.specs.Prelude.{◌≡◌, ℕ, ◌<◌, Bool, true, List, [], ◌∷◌, get_or, map}
use Rattle.std.specs.declared.cmp.Ordering.TheVariants.{Less}
use Rattle.fst_semiring.specs.Cost.{Cost, infinite, cost_cmp, plus}
use Rattle.fst_semiring.specs.declared.arc_type.ArcType.{ArcType}
use Rattle.fst_semiring.specs.Semiring.{times}
use Rattle.fst_machine.specs.BreadthFirst.{Has}
use Rattle.fst_machine.specs.Letters.{Letter, product}
use Rattle.fst_trim.specs.Links.{Link}

-- A hop from one state to another, along an arc with this place and weight.
pub record Hop : Type 0 where
  pub from : ℕ
  pub to : ℕ
  pub place : ℕ
  pub weight : Cost

-- the first value is no worse than the second
abbrev pub NoWorse : Cost → Cost → Type 0
NoWorse a b = plus a b ≡ a

-- the first value is better than the second
abbrev pub Better : Cost → Cost → Type 0
Better a b = cost_cmp a b ≡ Less

-- a hop as a letter, whose labels say nothing
abbrev pub hop_letter : Hop → Letter
hop_letter h = record { ilabel = 0; olabel = 0; weight = h.weight }

-- the product of the weights of hops
abbrev pub hops_product : ArcType → List Hop → Cost
hops_product kind hops = product kind (map hop_letter hops)

-- these hops, the last one first, lead to q from p
abbrev pub IsBack : (Hop → Type 0) → ℕ → List Hop → ℕ → Type 0
IsBack Goes q [] p = q ≡ p
IsBack Goes q (h ∷ back) p = Goes h × (h.to ≡ q) × IsBack Goes h.from back p

-- the product of the hops with the value at which they begin
abbrev pub value_by : ArcType → (ℕ → Cost) → List Hop → ℕ → Cost
value_by kind source back p = times kind (hops_product kind back) (source p)

-- Some hops lead to q from a state that has a value, with this product.
pub record Arrives (kind : ArcType) (Goes : Hop → Type 0) (source : ℕ → Cost) (q : ℕ) (w : Cost) : Type 0 where
  pub back : List Hop
  pub first : ℕ
  pub leads : IsBack Goes q back first
  pub begins : source first ≡ infinite → ⊥
  pub weight : w ≡ value_by kind source back first

-- Hops between states below n: none is Zero, and the ends of a hop and its place tell its weight.
pub record IsNet (Goes : Hop → Type 0) (n : ℕ) : Type 0 where
  pub begins : (h : Hop) → Goes h → h.from < n
  pub ends : (h : Hop) → Goes h → h.to < n
  pub solid : (h : Hop) → Goes h → h.weight ≡ infinite → ⊥
  pub fixed : (h k : Hop) → Goes h → Goes k → h.from ≡ k.from → h.place ≡ k.place → h.to ≡ k.to → h.weight ≡ k.weight

-- a link of a state as a hop
abbrev pub link_hop : {V : Type 0} → (V → Cost) → ℕ → Link V → Hop
link_hop value q l = record { from = q; to = l.next; place = l.place; weight = value l.weight }

-- states without a mark count where there are no marks at all
abbrev pub IsOpen : List Bool → ℕ → Type 0
IsOpen marks q = get_or marks q true ≡ true

-- The hop is a link to a state that counts.
pub record IsHop {V : Type 0} (value : V → Cost) (marks : List Bool) (links : List (List (Link V))) (h : Hop) : Type 0 where
  pub link : Link V
  pub there : Has (get_or links h.from []) link
  pub same : h ≡ link_hop value h.from link
  pub leads : IsOpen marks h.to
