-- The theorem of composition passes on to each graph whose successful paths are tied to those of another, one to one.
use Rattle.std.proofs.Common.{◌≡◌, ◌↔◌, ℕ, List, sym, ap, ◌∙◌, subst}
use Rattle.fst_semiring.specs.Cost.{Cost}
use Rattle.fst_semiring.specs.declared.arc_type.ArcType.{ArcType}
use Rattle.fst_machine.specs.Machine.{Machine}
use Rattle.fst_machine.specs.Graph.{Graph, graph_of}
use Rattle.fst_machine.specs.Letters.{input, output}
use Rattle.fst_machine.specs.Paths.{Transition, letters}
use Rattle.fst_machine.specs.Relation.{IsSuccessful, Rel}
use Rattle.fst_machine.specs.Matching.{IsMatchingPair}
use Rattle.fst_machine.specs.Numbering.{IsNumbered}
use Rattle.fst_trim.specs.KeptPaths.{IsRenumbered, KeepsPaths}
use Rattle.fst_trim.specs.OneToOne.{IsOneToOne}
use Rattle.fst_compose.specs.Names.{Name}
use Rattle.fst_compose.specs.Composition.{composed}
use Rattle.fst_compose.specs.Reading.{GoesThrough, IsReadBy, IsReadOff}
use Rattle.fst_compose.specs.Theorem.{IsComposition, IsConnectedComposition, IsReadNamed, Pairs, Relates}
use Rattle.fst_compose.proofs.Numbered.{numbered_one_to_one}
use Rattle.fst_compose.proofs.Theorem.{composed_is}

-- where successful paths with the same strings and weight stand in another graph, it relates the same
related : {P Q : Type 0} (kind : ArcType) (g : Graph P) (k : Graph Q) → ((path : List (Transition P)) (w : Cost) → IsSuccessful kind g path w → (other : List (Transition Q)) × IsSuccessful kind k other w × (letters path ≡ letters other)) → (x z : List ℕ) (w : Cost) → Rel kind g x z w → Rel kind k x z w
related kind g k gives x z w r =
    let o = gives r.says.path w (record { first = r.first; last = r.says.last; starts = r.starts; leads = r.says.leads; final = r.says.final; weight = r.says.weight }) in
    let s = o.1 in
    record { first = s.first; starts = s.starts; says = record { path = o.0; last = s.last; leads = s.leads; final = s.final; reads = r.says.reads ∙ ap input o.2; writes = r.says.writes ∙ ap output o.2; weight = s.weight } }

module _ {P Q N M : Type 0} (kind : ArcType) (a : Graph N) (b : Graph M) (g : Graph P) (h : Graph Q) (T : List (Transition P) → List (Transition Q) → Type 0) (Reads : List (Transition P) → List (Transition N) → List (Transition M) → Type 0) (is : Pairs kind a b g Reads) (keeps : IsOneToOne kind g h T) where
  through_reads : (path : List (Transition Q)) (w : Cost) → IsSuccessful kind h path w → (one : List (Transition N)) × (two : List (Transition M)) × IsReadBy kind g T Reads path one two × IsMatchingPair kind a b one two (input (letters path)) (output (letters path)) w
  through_reads path w s =
      let old = keeps.back path w s in
      let read = is.reads old.0 w old.1 in
      let pair = subst (λ ls. IsMatchingPair kind a b read.0 read.1 (input ls) (output ls) w) (sym old.3) read.3 in
      (read.0, read.1, record { between = old.0; weight = w; succeeds = old.1; tied = old.2; reads = read.2 }, pair)

  through_clear : (path : List (Transition Q)) (one other : List (Transition N)) (two another : List (Transition M)) → IsReadBy kind g T Reads path one two → IsReadBy kind g T Reads path other another → (one ≡ other) × (two ≡ another)
  through_clear path one other two another r q =
      let same : q.between ≡ r.between = keeps.only q.between r.between path q.weight r.weight q.succeeds r.succeeds q.tied r.tied in
      is.clear r.between one other two another r.reads (subst (λ ts. Reads ts other another) same q.reads)

  through_has : (one : List (Transition N)) (two : List (Transition M)) (x z : List ℕ) (w : Cost) → IsMatchingPair kind a b one two x z w → (path : List (Transition Q)) × IsSuccessful kind h path w × IsReadBy kind g T Reads path one two × (x ≡ input (letters path)) × (z ≡ output (letters path))
  through_has one two x z w pair =
      let made = is.has one two x z w pair in
      let new = keeps.there made.0 w made.1 in
      (new.0, new.1, record { between = made.0; weight = w; succeeds = made.1; tied = new.2; reads = made.2 }, made.3 ∙ ap input (sym new.3), made.4 ∙ ap output (sym new.3))

  through_once : (path other : List (Transition Q)) (v w : Cost) (one : List (Transition N)) (two : List (Transition M)) → IsSuccessful kind h path v → IsSuccessful kind h other w → IsReadBy kind g T Reads path one two → IsReadBy kind g T Reads other one two → path ≡ other
  through_once path other v w one two s t r q =
      let same : q.between ≡ r.between = is.once q.between r.between q.weight r.weight one two q.succeeds r.succeeds q.reads r.reads in
      keeps.once r.between path other v w s t r.tied (subst (λ ts. T ts other) same q.tied)

  through_says : (x z : List ℕ) (w : Cost) → Rel kind h x z w ↔ Relates kind a b x z w
  through_says x z w = (
    λ r. (is.says x z w).0 (related kind h g (λ path v s. let old = keeps.back path v s in (old.0, old.1, old.3)) x z w r),
    λ r. related kind g h (λ path v s. let new = keeps.there path v s in (new.0, new.1, sym new.3)) x z w ((is.says x z w).1 r),
  )

  -- the other graph's successful paths are the matching pairs too
  pub pairs_through : Pairs kind a b h (IsReadBy kind g T Reads)
  pairs_through = record {
    reads = through_reads;
    clear = through_clear;
    has = through_has;
    once = through_once;
    says = through_says;
  }

-- a machine whose states stand for the names
pub composition_of : {N M : Type 0} (kind : ArcType) (a : Graph N) (b : Graph M) (names : List (Name N M)) (m : Machine Cost) → IsNumbered (composed kind a b) names m → IsComposition kind a b names m
composition_of kind a b names m h = pairs_through kind a b (composed kind a b) (graph_of m) (GoesThrough names) (IsReadOff a b) (composed_is kind a b).pairs (numbered_one_to_one (composed kind a b) names m h kind)

-- and the machine of the useful states of this
pub connected_composition : {N M : Type 0} (kind : ArcType) (a : Graph N) (b : Graph M) (names : List (Name N M)) (whole c : Machine Cost) (kept : List ℕ) → IsComposition kind a b names whole → KeepsPaths kind whole c kept → IsConnectedComposition kind a b names whole kept c
connected_composition kind a b names whole c kept is keeps = pairs_through kind a b (graph_of whole) (graph_of c) (IsRenumbered whole kept) (IsReadNamed kind a b names) is keeps
