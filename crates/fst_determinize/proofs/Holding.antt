-- The members of a subset as they are kept.
use Rattle.std.proofs.Common.{◌≡◌, ℕ, ◌+◌, ◌<◌, List, [], ◌∷◌, Some, length, take, get_or, slice_get, sym, ap, ◌∙◌, subst}
use Rattle.std.specs.List.{All}
use Rattle.std.specs.Option.{option_map}
use Rattle.fst_semiring.specs.Cost.{Cost, plus}
use Rattle.fst_semiring.specs.Semiring.{times}
use Rattle.fst_semiring.specs.declared.arc_type.ArcType.{ArcType}
use Rattle.fst_machine.specs.BreadthFirst.{Has}
use Rattle.fst_machine.specs.Graph.{graph_of}
use Rattle.fst_machine.specs.Machine.{Machine, valued}
use Rattle.fst_determinize.specs.Kept.{HeldAs, member_as, members_as}
use Rattle.fst_determinize.specs.Subsets.{Member}
use Rattle.fst_determinize.specs.Ways.{final_by}
use Rattle.fst_determinize.proofs.Elements.{Has_map}
use Rattle.fst_determinize.proofs.Forms.{best_more}
use Rattle.fst_trim.proofs.Weighed.{graph_final}
use Rattle.fst_determinize.proofs.Runs.{Has_All}

-- a list of one element
one_only : {X : Type 0} (xs : List X) (x : X) → length xs ≡ 1 → x ≡ get_or xs 0 x → x ∷ [] ≡ xs
one_only [] x one at = absurd (cc)
one_only (y ∷ []) x one at = ap (λ z. z ∷ []) at
one_only (y ∷ z ∷ xs) x one at = absurd (cc)

-- The members of a subset in a form.
module _ {R : Type 0} (kept : R → Cost) (hs : List (HeldAs R)) (members : List Member) (same : members_as kept hs ≡ members) where
  -- what holds of the members holds of each of these
  pub held_all : (P : Member → Type 0) → ((n : Member) → Has members n → P n) → All (λ x. P (member_as kept x)) hs
  held_all P all = Has_All (λ x. P (member_as kept x)) hs (λ x k. all (member_as kept x) (subst (λ (ms : List Member). Has ms (member_as kept x)) same (Has_map (member_as kept) hs x k)))

  -- and of one of them
  pub held_at : (P : Member → Type 0) → ((n : Member) → Has members n → P n) → (i : ℕ) (h from : HeldAs R) → i < length hs → h ≡ get_or hs i h → from ≡ h → P (member_as kept from)
  held_at P all i h from low at here = subst (λ (x : HeldAs R). P (member_as kept x)) (sym here) (subst (λ (x : HeldAs R). P (member_as kept x)) (sym at) (held_all P all i h low))

  -- where there is one, the subset is this one
  pub held_alone : (h : HeldAs R) → length hs ≡ 1 → h ≡ get_or hs 0 h → member_as kept h ∷ [] ≡ members
  held_alone h one at = ap (members_as kept) (one_only hs h one at) ∙ same

  module _ {V : Type 0} (kind : ArcType) (value : V → Cost) (m : Machine V) where
    -- the final weights of some members, with one more of these
    pub final_next : (i : ℕ) (h from : HeldAs R) (w : V) (so_far own new : Cost) → i < length hs → h ≡ get_or hs i h → from ≡ h → option_map (λ s. s.final) (slice_get m.states from.state) ≡ Some w
        → so_far ≡ final_by kind (graph_of (valued value m)) (members_as kept (take i hs)) → own ≡ times kind (kept from.residual) (value w) → new ≡ plus so_far own
        → new ≡ final_by kind (graph_of (valued value m)) (members_as kept (take (i + 1) hs))
    final_next i h from w so_far own new low at here has before made more =
        let g = graph_of (valued value m) in
        let weigh : Member → Cost = λ n. times kind n.residual (g.final n.state) in
        let is : own ≡ weigh (member_as kept h) = made ∙ (ap (times kind (kept from.residual)) (sym (graph_final value m from.state w has)) ∙ ap (λ (x : HeldAs R). weigh (member_as kept x)) here) in
        best_more (member_as kept) weigh hs i h so_far new low at before (more ∙ ap (plus so_far) is)
