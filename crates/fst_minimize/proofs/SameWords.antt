-- The minimized machine gives each word the weight that the machine gives it.
use Rattle.std.proofs.Common.{◌≡◌, ◌≢◌, inl, inr, ℕ, List, [], ◌∷◌, Some, slice_get, sym, refl, ap, ap₂, ◌∙◌, subst}
use Rattle.fst_semiring.specs.Cost.{Cost, infinite}
use Rattle.fst_semiring.specs.declared.arc_type.ArcType.{ArcType}
use Rattle.fst_semiring.specs.Semiring.{times}
use Rattle.fst_machine.specs.Machine.{Machine}
use Rattle.fst_machine.specs.Graph.{Graph, graph_of}
use Rattle.fst_machine.specs.Letters.{label_word, product}
use Rattle.fst_machine.specs.Paths.{Transition, letters}
use Rattle.fst_machine.proofs.Connected.{connected_serves, machine_serves}
use Rattle.fst_distance.specs.Pushing.{IsPushed, value_at}
use Rattle.fst_distance.specs.PushLaws.{NoArcIsZero}
use Rattle.fst_distance.proofs.PushedMachine.{potential, Below}
use Rattle.fst_distance.proofs.PushedPaths.{pushed_path, path_there, path_back, finish_undone, final_there, final_back}
use Rattle.fst_minimize.specs.Classes.{HasClasses}
use Rattle.fst_minimize.specs.Laws.{IsNormal, totalled}
use Rattle.fst_trim.specs.WordWeights.{WordWeighs, IsWordWeight, SameWords}
use Rattle.fst_trim.proofs.WordWeights.{served_word}
use Rattle.fst_minimize.proofs.Classes.{start_back}
use Rattle.fst_minimize.proofs.Minimal.{totalled_words}

-- pushing changes no label
pushed_word : {N : Type 0} (kind : ArcType) (d : N → Cost) (path : List (Transition N)) → label_word (letters (pushed_path kind d path)) ≡ label_word (letters path)
pushed_word kind d [] = refl
pushed_word kind d (t ∷ path) = ap (λ ls. t.arc.ilabel ∷ ls) (pushed_word kind d path)

module _ (kind : ArcType) (m r : Machine Cost) (total : Cost) (h : IsPushed kind m r total) (some : NoArcIsZero m) where
  start_value : (p : ℕ) → h.connected.start ≡ Some p → total ≡ h.distances p
  start_value p e = h.start ∙ ap (value_at h.distances) e

  -- the total is not Zero where there is a start
  pub total_some : (p : ℕ) → r.start ≡ Some p → total ≢ infinite
  total_some p e z =
      let starts = sym h.pushes.start ∙ e in
      (potential kind m r total h some).not_zero p (h.pushes.begins p starts) (sym (start_value p starts) ∙ z)

  -- a word of the machine is one of the pushed machine, with the total as a factor
  pub pushed_there : (x : List ℕ) (w : Cost) → WordWeighs kind (graph_of m) x w → (v : Cost) × WordWeighs kind (graph_of r) x v × (w ≡ times kind total v)
  pushed_there x w word =
      let c = served_word kind (λ (p i : ℕ). slice_get h.trims.kept i ≡ Some p) (graph_of m) (graph_of h.connected) (connected_serves m h.connected h.trims) x w word in
      let p = c.weighs in
      let begin = h.pushes.begins c.first c.starts in
      let path = path_there kind h.distances (graph_of h.connected) (graph_of r) (Below kind m r total h some) h.pushes p.path c.first p.last begin p.leads in
      let pot = potential kind m r total h some in
      let new = times kind (product kind (letters (pushed_path kind h.distances p.path))) ((graph_of r).final p.last) in (
        new,
        record {
          first = c.first;
          starts = h.pushes.start ∙ c.starts;
          weighs = record {
            path = pushed_path kind h.distances p.path;
            last = p.last;
            leads = path.0;
            final = final_there kind h.distances (graph_of h.connected) (graph_of r) (Below kind m r total h some) h.pushes pot p.last path.1 p.final;
            word = p.word ∙ sym (pushed_word kind h.distances p.path);
            weight = refl;
          };
        },
        p.weight ∙ (sym (finish_undone kind h.distances (graph_of h.connected) (graph_of r) (Below kind m r total h some) h.pushes pot p.path c.first p.last begin p.leads) ∙ ap (λ t. times kind t new) (sym (start_value c.first c.starts))),
      )

  -- and the other way round
  pub pushed_back : (x : List ℕ) (v : Cost) → WordWeighs kind (graph_of r) x v → WordWeighs kind (graph_of m) x (times kind total v)
  pushed_back x v word =
      let p = word.weighs in
      let starts : h.connected.start ≡ Some word.first = sym h.pushes.start ∙ word.starts in
      let begin = h.pushes.begins word.first starts in
      let pot = potential kind m r total h some in
      let old = path_back kind h.distances (graph_of h.connected) (graph_of r) (Below kind m r total h some) h.pushes p.path word.first p.last begin p.leads in
      let inside = (path_there kind h.distances (graph_of h.connected) (graph_of r) (Below kind m r total h some) h.pushes old.0 word.first p.last begin old.1).1 in
      let undone = finish_undone kind h.distances (graph_of h.connected) (graph_of r) (Below kind m r total h some) h.pushes pot old.0 word.first p.last begin old.1 in
      let same : v ≡ times kind (product kind (letters (pushed_path kind h.distances old.0))) ((graph_of r).final p.last) = p.weight ∙ ap (λ (path : List (Transition ℕ)). times kind (product kind (letters path)) ((graph_of r).final p.last)) (sym old.2) in
      served_word kind (λ (i p : ℕ). slice_get h.trims.kept i ≡ Some p) (graph_of h.connected) (graph_of m) (machine_serves m h.connected h.trims) x (times kind total v) (record {
        first = word.first;
        starts = starts;
        weighs = record {
          path = old.0;
          last = p.last;
          leads = old.1;
          final = final_back kind h.distances (graph_of h.connected) (graph_of r) (Below kind m r total h some) h.pushes pot p.last inside p.final;
          word = p.word ∙ (ap (λ (path : List (Transition ℕ)). label_word (letters path)) (sym old.2) ∙ pushed_word kind h.distances old.0);
          weight = ap₂ (times kind) (start_value word.first starts) same ∙ undone;
        };
      })

  module _ (c : Machine Cost) (classes : HasClasses r c) (normal : IsNormal kind r) where
    word_there : (x : List ℕ) (w : Cost) → WordWeighs kind (graph_of m) x w → WordWeighs kind (graph_of (totalled kind total c)) x w
    word_there x w word =
        let v = pushed_there x w word in
        let made = (totalled_words kind total r c classes normal (total_some v.1.first v.1.starts)).there x v.0 v.1 in
        subst (λ u. WordWeighs kind (graph_of (totalled kind total c)) x u) (sym v.2) made

    word_back : (x : List ℕ) (w : Cost) → WordWeighs kind (graph_of (totalled kind total c)) x w → WordWeighs kind (graph_of m) x w
    word_back x w word =
        let s = start_back r c classes normal.closed normal.single (λ p k a has. (normal.trim a.next (normal.closed.next p k a has)).1) word.first word.starts in
        let v = (totalled_words kind total r c classes normal (total_some s.0 s.1)).back x w word in
        subst (λ u. WordWeighs kind (graph_of m) x u) (sym v.2) (pushed_back x v.0 v.1)

    -- each word has the same weight in both
    pub same_words : SameWords kind (graph_of m) (graph_of (totalled kind total c))
    same_words x w = (there, back)
      where
        there : IsWordWeight kind (graph_of m) x w → IsWordWeight kind (graph_of (totalled kind total c)) x w
        there (inl word) = inl (word_there x w word)
        there (inr none) = inr ((λ v word. none.0 v (word_back x v word)), none.1)

        back : IsWordWeight kind (graph_of (totalled kind total c)) x w → IsWordWeight kind (graph_of m) x w
        back (inl word) = inl (word_back x w word)
        back (inr none) = inr ((λ v word. none.0 v (word_there x v word)), none.1)
