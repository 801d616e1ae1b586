-- A state has the behaviour of its class, and the machine of the classes relates what the machine relates.
use Rattle.std.proofs.Common.{◌≡◌, ◌↔◌, ℕ, ◌<◌, List, Some, length, get_or, slice_get, sym, refl, ap, ◌∙◌, subst, arith}
use Rattle.std.specs.Option.{option_map}
use Rattle.std.proofs.lemmas.Option.{slice_get-get_or}
use Rattle.std.specs.Prelude.{IfSome}
use Rattle.fst_semiring.specs.Cost.{Cost}
use Rattle.fst_semiring.specs.declared.arc_type.ArcType.{ArcType}
use Rattle.fst_machine.specs.Machine.{Arc, Machine}
use Rattle.fst_machine.specs.Graph.{Graph, graph_of, renamed}
use Rattle.fst_machine.specs.Letters.{letter_of}
use Rattle.fst_machine.specs.Relation.{Rel}
use Rattle.fst_machine.proofs.Arcs.{mapped_at, mapped_some, at_mapped}
use Rattle.fst_trim.specs.WordWeights.{IsSingle}
use Rattle.fst_minimize.specs.Behaviour.{Alike, GoesOn, Follows, IsStable}
use Rattle.fst_minimize.specs.Classes.{HasClasses}
use Rattle.fst_minimize.specs.Laws.{IsClosed, ClassLaws}
use Rattle.fst_minimize.proofs.Stable.{alike_final, alike_there, alike_sym, stable_alike, alike_says}

-- every state has the behaviour of itself
alike_same : {N : Type 0} (g : Graph N) (p : N) → Alike g g p p
alike_same g p ls w = ((λ b. b), (λ b. b))

module _ (m c : Machine Cost) (h : HasClasses m c) (closed : IsClosed m) (single : IsSingle (graph_of m)) (goes : GoesOn (graph_of m)) where
  -- a state is tied to its class
  abbrev pub InClass : ℕ → ℕ → Type 0
  InClass p i = slice_get h.class p ≡ Some i

  -- a state has a class
  pub has_class : (p : ℕ) → p < length m.states → InClass p (get_or h.class p 0)
  has_class p low = let same = h.classes in slice_get-get_or h.class p 0 (omega arith)

  -- the least member of its class does the same
  least_alike : (p i q : ℕ) → InClass p i → slice_get h.least i ≡ Some q → Alike (graph_of m) (graph_of m) p q
  least_alike p i q tied has = (h.alike p q i i tied (h.member i q has)).0 refl

  class_final : (p i : ℕ) → InClass p i → (graph_of m).final p ≡ (graph_of c).final i
  class_final p i tied =
      let q = h.first p i tied in
      alike_final (graph_of m) (graph_of m) p q.0 (least_alike p i q.0 tied q.1) ∙ sym (h.final i q.0 q.1)

  -- two states that do the same have one class
  one_class : (p q : ℕ) → p < length m.states → q < length m.states → Alike (graph_of m) (graph_of m) p q → get_or h.class p 0 ≡ get_or h.class q 0
  one_class p q low less alike = (h.alike p q (get_or h.class p 0) (get_or h.class q 0) (has_class p low) (has_class q less)).1 alike

  class_there : (p i k : ℕ) (a : Arc Cost ℕ) → InClass p i → slice_get ((graph_of m).arcs p) k ≡ Some a → Follows InClass a ((graph_of c).arcs i)
  class_there p i k a tied has =
      let q = h.first p i tied in
      let f = alike_there (graph_of m) (graph_of m) single single goes p q.0 k a (least_alike p i q.0 tied q.1) has in
      let there = at_mapped (renamed (λ r. get_or h.class r 0)) ((graph_of m).arcs q.0) f.place f.arc f.has in
      let same = one_class a.next f.arc.next (closed.next p k a has) (closed.next q.0 f.place f.arc f.has) f.tied in
      record {
        place = f.place;
        arc = renamed (λ r. get_or h.class r 0) f.arc;
        has = subst (λ (arcs : List (Arc Cost ℕ)). slice_get arcs f.place ≡ Some (renamed (λ r. get_or h.class r 0) f.arc)) (sym (h.arcs i q.0 q.1)) there;
        same = f.same;
        tied = subst (λ (j : ℕ). InClass a.next j) same (has_class a.next (closed.next p k a has));
      }

  class_back : (p i k : ℕ) (b : Arc Cost ℕ) → InClass p i → slice_get ((graph_of c).arcs i) k ≡ Some b → Follows (λ j r. InClass r j) b ((graph_of m).arcs p)
  class_back p i k b tied has =
      let q = h.first p i tied in
      let from = mapped_at (renamed (λ r. get_or h.class r 0)) ((graph_of m).arcs q.0) k b (subst (λ (arcs : List (Arc Cost ℕ)). slice_get arcs k ≡ Some b) (h.arcs i q.0 q.1) has) in
      let f = alike_there (graph_of m) (graph_of m) single single goes q.0 p k from.0 (alike_sym (graph_of m) (graph_of m) p q.0 (least_alike p i q.0 tied q.1)) from.1 in
      let same = one_class f.arc.next from.0.next (closed.next p f.place f.arc f.has) (closed.next q.0 k from.0 from.1) (alike_sym (graph_of m) (graph_of m) from.0.next f.arc.next f.tied) in
      record {
        place = f.place;
        arc = f.arc;
        has = f.has;
        same = sym (ap letter_of from.2) ∙ f.same;
        tied = subst (λ (j : ℕ). InClass f.arc.next j) (same ∙ ap (λ (a : Arc Cost ℕ). a.next) from.2) (has_class f.arc.next (closed.next p f.place f.arc f.has));
      }

  pub class_stable : IsStable (graph_of m) (graph_of c) InClass
  class_stable = record { final = class_final; there = class_there; back = class_back }

  -- a state has the behaviour of its class
  pub class_alike : (p i : ℕ) → InClass p i → Alike (graph_of m) (graph_of c) p i
  class_alike = stable_alike (graph_of m) (graph_of c) InClass class_stable

  -- what is asked of the start holds of it
  start_below : (p : ℕ) → m.start ≡ Some p → p < length m.states
  start_below p e = subst (λ o. IfSome o (λ s. s < length m.states)) e closed.start

  -- the start of the one is in the class that is the start of the other
  pub start_there : (p : ℕ) → m.start ≡ Some p → (c.start ≡ Some (get_or h.class p 0)) × InClass p (get_or h.class p 0)
  start_there p e = (h.start ∙ ap (option_map (λ p. get_or h.class p 0)) e, has_class p (start_below p e))

  pub start_back : (i : ℕ) → c.start ≡ Some i → (p : ℕ) × (m.start ≡ Some p) × InClass p i
  start_back i e =
      let from = mapped_some (λ p. get_or h.class p 0) m.start i (sym h.start ∙ e) in
      (from.0, from.1, subst (λ (j : ℕ). InClass from.0 j) from.2 (has_class from.0 (start_below from.0 from.1)))

  -- the machine of the classes relates the same
  pub class_says : (kind : ArcType) (x y : List ℕ) (w : Cost) → Rel kind (graph_of m) x y w ↔ Rel kind (graph_of c) x y w
  class_says kind x y w = (there, back)
    where
      there : Rel kind (graph_of m) x y w → Rel kind (graph_of c) x y w
      there r =
          let s = start_there r.first r.starts in
          record { first = get_or h.class r.first 0; starts = s.0; says = (alike_says kind (graph_of m) (graph_of c) r.first (get_or h.class r.first 0) (class_alike r.first (get_or h.class r.first 0) s.1) x y w).0 r.says }

      back : Rel kind (graph_of c) x y w → Rel kind (graph_of m) x y w
      back r =
          let s = start_back r.first r.starts in
          record { first = s.0; starts = s.1; says = (alike_says kind (graph_of m) (graph_of c) s.0 r.first (class_alike s.0 r.first s.2) x y w).1 r.says }

-- the laws
pub class_law : (kind : ArcType) (m c : Machine Cost) (h : HasClasses m c) → ClassLaws kind m c h
class_law kind m c h = record {
  alike = λ closed single goes. class_alike m c h closed single goes;
  says = λ closed single goes. class_says m c h closed single goes kind;
}
