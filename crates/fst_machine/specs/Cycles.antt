-- Useful names and improving cycles. (Mohri 2009, section 3.1: accessible and coaccessible states; section
-- 2.3, closed semirings: a cycle better than One has no closure.)
use Rattle.std.specs.Prelude.{◌≡◌, List, ◌∷◌, ◌++◌, Some}
use Rattle.std.specs.declared.cmp.Ordering.TheVariants.{Less}
use Rattle.fst_semiring.specs.Cost.{infinite, cost_cmp}
use Rattle.fst_semiring.specs.declared.arc_type.ArcType.{ArcType}
use Rattle.fst_semiring.specs.Semiring.{one_of}
use Rattle.fst_machine.specs.Graph.{Graph}
use Rattle.fst_machine.specs.Letters.{product}
use Rattle.fst_machine.specs.Paths.{Transition, IsPath, letters}

module _ {N : Type 0} (g : Graph N) where
  -- Some path leads from the start to this name.
  pub record IsAccessible (q : N) : Type 0 where
    pub first : N
    pub path : List (Transition N)
    pub starts : g.start ≡ Some first
    pub leads : IsPath g first path q

  -- Some path leads from this name to a final one.
  pub record IsCoaccessible (p : N) : Type 0 where
    pub last : N
    pub path : List (Transition N)
    pub leads : IsPath g p path last
    pub final : g.final last ≡ infinite → ⊥

  -- some successful path meets this name
  abbrev pub IsUseful : N → Type 0
  IsUseful q = IsAccessible q × IsCoaccessible q

  -- A path from a name back to itself whose product is better than One.
  pub record IsImprovingCycle (kind : ArcType) (p : N) (path : List (Transition N)) : Type 0 where
    pub leads : IsPath g p path p
    pub better : cost_cmp (product kind (letters path)) (one_of kind) ≡ Less

  -- no useful name has an improving cycle
  abbrev pub HasNoImprovingCycle : ArcType → Type 0
  HasNoImprovingCycle kind = (p : N) (path : List (Transition N)) → IsUseful p → IsImprovingCycle kind p path → ⊥

  -- A path that meets a name twice: up to that name, round a cycle, and on from it.
  pub record HasCycle (p : N) (path : List (Transition N)) (q : N) : Type 0 where
    pub front : List (Transition N)
    pub first : Transition N
    pub round : List (Transition N)
    pub back : List (Transition N)
    pub turn : N
    pub same : path ≡ front ++ ((first ∷ round) ++ back)
    pub arrives : IsPath g p front turn
    pub turns : IsPath g turn (first ∷ round) turn
    pub goes : IsPath g turn back q
