-- One step of what makes members and arcs of ways in order.
use Rattle.std.proofs.Common.{◌≡◌, ◌≢◌, inl, ℕ, ◌<◌, ◌≤◌, List, [], ◌∷◌, ◌++◌, Some, length, take, drop, map, slice_get, refl, sym, ap, ap₂, ◌∙◌, subst}
use Rattle.std.specs.List.{All}
use Rattle.std.proofs.lemmas.List.{map-append}
use Rattle.fst_semiring.specs.Cost.{Cost}
use Rattle.fst_semiring.specs.Division.{quotient}
use Rattle.fst_semiring.specs.declared.arc_type.ArcType.{ArcType}
use Rattle.fst_machine.specs.BreadthFirst.{Has}
use Rattle.fst_machine.specs.Machine.{Arc}
use Rattle.fst_determinize.specs.Kept.{AreDivided, AreGoodWays, HeldAs, IsGoodWay, RisesBy, WayAs, member_as, members_as, ways_as}
use Rattle.fst_walk.specs.Names.{key_arc}
use Rattle.fst_determinize.specs.Subsets.{Member}
use Rattle.fst_determinize.specs.Ways.{arc_by, arcs_by, best_of, member_by, members_of}
use Rattle.fst_determinize.proofs.Runs.{good_parts, group_put, label_run, rank_states, run_shorter, state_run}

module _ {V R : Type 0} (kind : ArcType) (value : V → Cost) (kept : R → Cost) (by : Cost) where
  -- the member of one run is put, and the rest is still to be put
  pub member_put : (all ys here others : List (WayAs V)) (old so_far new : List (HeldAs R)) (count : ℕ) (x : WayAs V) (residual : R) (least : Cost)
      → AreDivided value by ys → slice_get ys 0 ≡ Some x → count ≤ length ys → All (λ y. y.state ≡ x.state) (take count ys) → ((y : WayAs V) → slice_get ys count ≡ Some y → y.state ≢ x.state)
      → here ≡ take count ys → others ≡ drop count ys → least ≡ best_of (ways_as value here) → kept residual ≡ quotient kind least by → new ≡ so_far ++ record { state = x.state; residual = residual } ∷ []
      → members_as kept so_far ++ members_of kind by (ways_as value ys) ≡ members_as kept old ++ members_of kind by (ways_as value all)
      → members_as kept new ++ members_of kind by (ways_as value others) ≡ members_as kept old ++ members_of kind by (ways_as value all)
  member_put all ys here others old so_far new count x residual least h start few same next front back best divided put before =
      let run = state_run value by ys count x h start few same next in
      let made : kept residual ≡ quotient kind (best_of (ways_as value (take count ys))) by = divided ∙ ap (λ (v : Cost). quotient kind v by) (best ∙ ap (λ (zs : List (WayAs V)). best_of (ways_as value zs)) front) in
      let more : members_as kept new ≡ members_as kept so_far ++ member_by kind by x.state (ways_as value (take count ys)) ∷ [] =
      ap (members_as kept) put ∙ (map-append (member_as kept) so_far (record { state = x.state; residual = residual } ∷ []) ∙ ap (λ (v : Cost). members_as kept so_far ++ record { state = x.state; residual = v } ∷ []) made) in
      subst (λ (zs : List (WayAs V)). members_as kept new ++ members_of kind by (ways_as value zs) ≡ members_as kept old ++ members_of kind by (ways_as value all)) (sym back)
      (group_put value (λ y. y.state) (λ y. y.state) (λ y. refl) (member_by kind by) (members_as kept old) (members_as kept so_far) (members_as kept new) all ys count x run before more)

module _ {V : Type 0} (kind : ArcType) (value : V → Cost) where
  -- the run of the first label: its ways are good and stand by state
  pub record IsLabelRun (ys run others : List (WayAs V)) : Type 0 where
    pub ranked : RisesBy (λ y. y.state) run
    pub good : (y : WayAs V) → Has run y → IsGoodWay value y
    pub some : (y : WayAs V) × Has run y
    pub rest : AreGoodWays value others
    pub shorter : length others < length ys

  pub label_parts : (ys run others : List (WayAs V)) (count : ℕ) (x : WayAs V) → AreGoodWays value ys → slice_get ys 0 ≡ Some x → count ≤ length ys → All (λ y. y.label ≡ x.label) (take count ys)
      → ((y : WayAs V) → slice_get ys count ≡ Some y → y.label ≢ x.label) → run ≡ take count ys → others ≡ drop count ys → IsLabelRun ys run others
  label_parts ys run others count x h start few same next front back =
      let cut = label_run value ys count x h start few same next in
      let parts = good_parts value ys (take count ys) (drop count ys) cut.parts h in
      let one : IsLabelRun ys (take count ys) (drop count ys) = record {
        ranked = rank_states x.label (take count ys) cut.here parts.0.ranked;
        good = parts.0.good;
        some = (x, subst (λ (zs : List (WayAs V)). Has zs x) (sym cut.first) (inl refl));
        rest = parts.1;
        shorter = run_shorter (λ (y : WayAs V). y.label) ys count x cut;
      } in
      subst (λ (zs : List (WayAs V)). IsLabelRun ys run zs) (sym back) (subst (λ (zs : List (WayAs V)). IsLabelRun ys zs (drop count ys)) (sym front) one)

  -- the arc of one run is put, and the rest is still to be put
  pub arc_put : (all ys run others : List (WayAs V)) (old so_far new : List (Arc Cost (List Member))) (count : ℕ) (x : WayAs V)
      → AreGoodWays value ys → slice_get ys 0 ≡ Some x → count ≤ length ys → All (λ y. y.label ≡ x.label) (take count ys) → ((y : WayAs V) → slice_get ys count ≡ Some y → y.label ≢ x.label)
      → run ≡ take count ys → others ≡ drop count ys → new ≡ so_far ++ arc_by kind x.label (ways_as value run) ∷ []
      → so_far ++ arcs_by kind (ways_as value ys) ≡ old ++ arcs_by kind (ways_as value all)
      → new ++ arcs_by kind (ways_as value others) ≡ old ++ arcs_by kind (ways_as value all)
  arc_put all ys run others old so_far new count x h start few same next front back put before =
      let cut = label_run value ys count x h start few same next in
      subst (λ (zs : List (WayAs V)). new ++ arcs_by kind (ways_as value zs) ≡ old ++ arcs_by kind (ways_as value all)) (sym back)
      (group_put value (λ y. y.label) (λ y. y.label) (λ y. refl) (arc_by kind) old so_far new all ys count x cut before (put ∙ ap (λ (zs : List (WayAs V)). so_far ++ arc_by kind x.label (ways_as value zs) ∷ []) front))

-- the arc of a run, of what was made for it
pub arc_made : {V R : Type 0} (kind : ArcType) (value : V → Cost) (kept : R → Cost) (run : List (WayAs V)) (old new : List (Arc V (List Member))) (label : ℕ) (b : V) (members cleared : List (HeldAs R)) (next : List Member)
    → cleared ≡ [] → members_as kept members ≡ members_as kept cleared ++ members_of kind (value b) (ways_as value run) → next ≡ members_as kept members → value b ≡ best_of (ways_as value run)
    → new ≡ old ++ record { ilabel = label; olabel = label; weight = b; next = next } ∷ []
    → map (key_arc value) new ≡ map (key_arc value) old ++ arc_by kind label (ways_as value run) ∷ []
arc_made kind value kept run old new label b members cleared next none made is best put =
    let whole : next ≡ members_of kind (best_of (ways_as value run)) (ways_as value run) = is ∙ (made ∙ (ap (λ (hs : List (HeldAs _)). members_as kept hs ++ members_of kind (value b) (ways_as value run)) none ∙ ap (λ (v : Cost). members_of kind v (ways_as value run)) best)) in
    ap (map (key_arc value)) put ∙ (map-append (key_arc value) old (record { ilabel = label; olabel = label; weight = b; next = next } ∷ [])
    ∙ ap₂ (λ (v : Cost) (ms : List Member). map (key_arc value) old ++ record { ilabel = label; olabel = label; weight = v; next = ms } ∷ []) best whole)
