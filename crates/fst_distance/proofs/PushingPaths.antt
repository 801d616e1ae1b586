-- The successful paths of a machine are those of the pushed one, one to one, with the total as a factor.
use Rattle.std.proofs.Common.{◌≡◌, ◌≢◌, ℕ, ◌<◌, List, [], ◌∷◌, Some, length, map, slice_get, sym, refl, ap, ap₂, ◌∙◌, subst}
use Rattle.fst_semiring.specs.Cost.{Cost, infinite}
use Rattle.fst_semiring.specs.declared.arc_type.ArcType.{ArcType}
use Rattle.fst_semiring.specs.Semiring.{times}
use Rattle.fst_machine.specs.Machine.{Arc, Machine}
use Rattle.fst_machine.specs.Graph.{Graph, graph_of}
use Rattle.fst_machine.specs.Letters.{Letter, product}
use Rattle.fst_machine.specs.Paths.{Transition, letters}
use Rattle.fst_machine.specs.Relation.{IsSuccessful}
use Rattle.fst_machine.specs.Connected.{IsKeptAt}
use Rattle.fst_trim.specs.KeptPaths.{IsRenumbered, KeepsPaths}
use Rattle.fst_trim.specs.OneToOne.{Tied}
use Rattle.fst_trim.proofs.KeptPaths.{connected_keeps}
use Rattle.fst_distance.specs.Pushing.{IsPushed, value_at}
use Rattle.fst_distance.specs.PushLaws.{IsPushedPath, PushesPaths, labels}
use Rattle.fst_distance.proofs.PushedPaths.{pushed_path, path_there, path_back, finish_undone, final_there, final_back}
use Rattle.fst_distance.proofs.PushedMachine.{potential}

-- the pushed path goes through the same states and places, with the same labels
module _ (R : ℕ → ℕ → Type 0) (At : ℕ → ℕ → ℕ → ℕ → Type 0) (kind : ArcType) (d : ℕ → Cost) where
  tied_there : (path other : List (Transition ℕ)) → Tied R At path other → Tied R At path (pushed_path kind d other)
  tied_there [] [] tied = tied
  tied_there [] (u ∷ other) tied = tied
  tied_there (t ∷ path) [] tied = tied
  tied_there (t ∷ path) (u ∷ other) tied = (tied.0, tied.1, tied_there path other tied.2)

  tied_back : (path other : List (Transition ℕ)) → Tied R At path (pushed_path kind d other) → Tied R At path other
  tied_back [] [] tied = tied
  tied_back [] (u ∷ other) tied = tied
  tied_back (t ∷ path) [] tied = tied
  tied_back (t ∷ path) (u ∷ other) tied = (tied.0, tied.1, tied_back path other tied.2)

pushed_labels : (kind : ArcType) (d : ℕ → Cost) (path : List (Transition ℕ)) → labels (pushed_path kind d path) ≡ labels path
pushed_labels kind d [] = refl
pushed_labels kind d (t ∷ path) = ap (λ ls. (t.arc.ilabel, t.arc.olabel) ∷ ls) (pushed_labels kind d path)

module _ (kind : ArcType) (m r : Machine Cost) (total : Cost) (h : IsPushed kind m r total)
    (some : (p k : ℕ) (a : Arc Cost ℕ) → slice_get ((graph_of m).arcs p) k ≡ Some a → a.weight ≢ infinite) where
  abbrev c : Graph ℕ
  c = graph_of h.connected

  abbrev D : ℕ → Type 0
  D p = p < length h.connected.states

  keeps : KeepsPaths kind m h.connected h.trims.kept
  keeps = connected_keeps m h.connected h.trims kind

  start_total : (p : ℕ) → h.connected.start ≡ Some p → total ≡ h.distances p
  start_total p e = h.start ∙ ap (value_at h.distances) e

  tied_up : (path other : List (Transition ℕ)) → IsRenumbered m h.trims.kept path other → IsRenumbered m h.trims.kept path (pushed_path kind h.distances other)
  tied_up = tied_there (λ (p i : ℕ). slice_get h.trims.kept i ≡ Some p) (λ (p i : ℕ). IsKeptAt h.trims.kept ((graph_of m).arcs p)) kind h.distances

  tied_down : (path other : List (Transition ℕ)) → IsRenumbered m h.trims.kept path (pushed_path kind h.distances other) → IsRenumbered m h.trims.kept path other
  tied_down = tied_back (λ (p i : ℕ). slice_get h.trims.kept i ≡ Some p) (λ (p i : ℕ). IsKeptAt h.trims.kept ((graph_of m).arcs p)) kind h.distances

  -- the path of the connected machine behind a path of the pushed one
  behind : (other : List (Transition ℕ)) (v : Cost) (s : IsSuccessful kind (graph_of r) other v)
      → (old : List (Transition ℕ)) × (w : Cost) × IsSuccessful kind c old w × (pushed_path kind h.distances old ≡ other) × (w ≡ times kind total v)
  behind other v s =
      let starts : h.connected.start ≡ Some s.first = sym h.pushes.start ∙ s.starts in
      let low = h.pushes.begins s.first starts in
      let old = path_back kind h.distances c (graph_of r) D h.pushes other s.first s.last low s.leads in
      let inside = (path_there kind h.distances c (graph_of r) D h.pushes old.0 s.first s.last low old.1).1 in
      let whole : v ≡ times kind (product kind (letters (pushed_path kind h.distances old.0))) ((graph_of r).final s.last) =
      s.weight ∙ ap (λ (path : List (Transition ℕ)). times kind (product kind (letters path)) ((graph_of r).final s.last)) (sym old.2) in
      let w = times kind (product kind (letters old.0)) (c.final s.last) in (
        old.0,
        w,
        record {
          first = s.first;
          last = s.last;
          starts = starts;
          leads = old.1;
          final = final_back kind h.distances c (graph_of r) D h.pushes (potential kind m r total h some) s.last inside s.final;
          weight = refl;
        },
        old.2,
        sym (finish_undone kind h.distances c (graph_of r) D h.pushes (potential kind m r total h some) old.0 s.first s.last low old.1) ∙ ap₂ (times kind) (sym (start_total s.first starts)) (sym whole),
      )

  there : (path : List (Transition ℕ)) (w : Cost) → IsSuccessful kind (graph_of m) path w
      → (other : List (Transition ℕ)) × (v : Cost) × IsSuccessful kind (graph_of r) other v × IsPushedPath kind total m h.trims.kept path other w v
  there path w s =
      let mid = keeps.there path w s in
      let t = mid.1 in
      let low = h.pushes.begins t.first t.starts in
      let leads = path_there kind h.distances c (graph_of r) D h.pushes mid.0 t.first t.last low t.leads in
      let other = pushed_path kind h.distances mid.0 in
      let v = times kind (product kind (letters other)) ((graph_of r).final t.last) in (
        other,
        v,
        record {
          first = t.first;
          last = t.last;
          starts = h.pushes.start ∙ t.starts;
          leads = leads.0;
          final = final_there kind h.distances c (graph_of r) D h.pushes (potential kind m r total h some) t.last leads.1 t.final;
          weight = refl;
        },
        record {
          renumbered = tied_up path mid.0 mid.2;
          same_labels = pushed_labels kind h.distances mid.0 ∙ ap (map (λ (l : Letter). (l.ilabel, l.olabel))) mid.3;
          weight = t.weight ∙ (sym (finish_undone kind h.distances c (graph_of r) D h.pushes (potential kind m r total h some) mid.0 t.first t.last low t.leads)
              ∙ ap (λ z. times kind z v) (sym (start_total t.first t.starts)));
        },
      )

  back : (other : List (Transition ℕ)) (v : Cost) → IsSuccessful kind (graph_of r) other v
      → (path : List (Transition ℕ)) × (w : Cost) × IsSuccessful kind (graph_of m) path w × IsPushedPath kind total m h.trims.kept path other w v
  back other v s =
      let old = behind other v s in
      let path = keeps.back old.0 old.1 old.2 in (
        path.0,
        old.1,
        path.1,
        record {
          renumbered = subst (λ (q : List (Transition ℕ)). IsRenumbered m h.trims.kept path.0 q) old.3 (tied_up path.0 old.0 path.2);
          same_labels = ap labels (sym old.3) ∙ (pushed_labels kind h.distances old.0 ∙ ap (map (λ (l : Letter). (l.ilabel, l.olabel))) path.3);
          weight = old.4;
        },
      )

  pub pushed_paths : PushesPaths kind total m r
  pushed_paths = record {
    kept = h.trims.kept;
    there = there;
    back = back;
    once = λ path one other v w s t tied tied2.
        let x = behind one v s in
        let y = behind other w t in
        let same = keeps.once path x.0 y.0 x.1 y.1 x.2 y.2 (tied_down path x.0 (subst (λ (q : List (Transition ℕ)). IsRenumbered m h.trims.kept path q) (sym x.3) tied))
        (tied_down path y.0 (subst (λ (q : List (Transition ℕ)). IsRenumbered m h.trims.kept path q) (sym y.3) tied2)) in
        sym x.3 ∙ (ap (pushed_path kind h.distances) same ∙ y.3);
    only = λ one other path u v w s t p tied tied2.
        let x = behind path w p in
        keeps.only one other x.0 u v s t (tied_down one x.0 (subst (λ (q : List (Transition ℕ)). IsRenumbered m h.trims.kept one q) (sym x.3) tied))
        (tied_down other x.0 (subst (λ (q : List (Transition ℕ)). IsRenumbered m h.trims.kept other q) (sym x.3) tied2));
  }
