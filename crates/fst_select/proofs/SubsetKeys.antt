-- The subset of a prefix tells what is ahead of it.
use Rattle.std.proofs.Common.{◌≡◌, ◌≢◌, ◌⊎◌, inl, inr, sym, refl, ap, ap₂, ◌∙◌, subst, ℕ, ◌≤◌, List, [], ◌++◌, length, append-nil}
use Rattle.fst_semiring.specs.Cost.{Cost, infinite, plus}
use Rattle.fst_semiring.specs.declared.arc_type.ArcType.{ArcType}
use Rattle.fst_semiring.specs.Semiring.{times}
use Rattle.fst_semiring.proofs.Laws.{keeps_times, one_times, times_assoc, times_keeps, times_only_zero, times_zero, zero_times}
use Rattle.fst_semiring.proofs.Order.{plus_antisym, plus_comm, plus_infinite, plus_same, plus_trans}
use Rattle.fst_machine.specs.BreadthFirst.{Has}
use Rattle.fst_machine.specs.Graph.{Graph}
use Rattle.fst_machine.specs.Letters.{label_word, product}
use Rattle.fst_machine.specs.Paths.{IsPath, Transition, letters}
use Rattle.fst_machine.specs.Cycles.{IsAccessible}
use Rattle.fst_machine.specs.Distance.{Finishes, IsFinalDistance, IsLeast}
use Rattle.fst_machine.proofs.Least.{least_same}
use Rattle.fst_machine.proofs.Letters.{label_word-append, letters-append, product-append}
use Rattle.fst_machine.proofs.PathParts.{IsPath-append, IsPath-split}
use Rattle.fst_trim.specs.Weighed.{IsWeighted}
use Rattle.fst_trim.specs.WordWeights.{Weighs, WordWeighs}
use Rattle.fst_determinize.specs.Subsets.{IsSubset, Member, Spells}
use Rattle.fst_determinize.specs.Ways.{best_by}
use Rattle.fst_determinize.proofs.Best.{best_least, least_reached}
use Rattle.fst_determinize.proofs.Members.{member_stands}
use Rattle.fst_determinize.proofs.Spelling.{no_word, spells_weighs, word_split}
use Rattle.fst_distance.proofs.Potential.{zero_or_not}
use Rattle.fst_select.specs.Keys.{IsShortest, PrefixLaws, best_total}
use Rattle.fst_select.specs.Strings.{PrefixWeighs}
use Rattle.fst_select.proofs.GoodPaths.{product_solid}

-- a least value is no worse than any value
pub least_below : (A : Cost → Type 0) (d w : Cost) → IsLeast A d → A w → plus d w ≡ d
least_below A d w (inl none) h = absurd (none.0 w h)
least_below A d w (inr some) h = some.1 w h

module _ (kind : ArcType) (g : Graph ℕ) (weighted : IsWeighted kind g) where
  -- a word's way to a final state does not weigh Zero
  pub weighs_solid : (q : ℕ) (rest : List ℕ) (u : Cost) → Weighs kind g q rest u → u ≢ infinite
  weighs_solid q rest u h e = by_part (times_only_zero kind (product kind (letters h.path)) (g.final h.last) (sym h.weight ∙ e))
    where
      by_part : (product kind (letters h.path) ≡ infinite) ⊎ (g.final h.last ≡ infinite) → ⊥
      by_part (inl z) = product_solid kind g (λ p k a at. (weighted.arcs p k a at).1) h.path q h.last h.leads z
      by_part (inr z) = h.final z

  pub word_solid : (x : List ℕ) (w : Cost) → WordWeighs kind g x w → w ≢ infinite
  word_solid x w h = weighs_solid h.first x w h.weighs

  -- A word with a weight, cut behind x.
  pub record WordParts (x rest : List ℕ) (w : Cost) : Type 0 where
    pub state : ℕ
    pub front : Cost
    pub back : Cost
    pub spells : Spells kind g x state front
    pub weighs : Weighs kind g state rest back
    pub weight : w ≡ times kind front back

  pub cut_word : (x rest : List ℕ) (w : Cost) → WordWeighs kind g (x ++ rest) w → WordParts x rest w
  cut_word x rest w h =
      let c = h.weighs in
      let parts = word_split c.path x rest (sym c.word) in
      let way = IsPath-split g parts.0 parts.1 h.first c.last (subst (λ (ts : List (Transition ℕ)). IsPath g h.first ts c.last) parts.2 c.leads) in
      let products : product kind (letters c.path) ≡ times kind (product kind (letters parts.0)) (product kind (letters parts.1))
      = ap (λ (ts : List (Transition ℕ)). product kind (letters ts)) parts.2 ∙ (ap (product kind) (letters-append parts.0 parts.1) ∙ product-append kind (letters parts.0) (letters parts.1)) in
      record {
        state = way.0;
        front = product kind (letters parts.0);
        back = times kind (product kind (letters parts.1)) (g.final c.last);
        spells = record { first = h.first; path = parts.0; starts = h.starts; leads = way.1; reads = parts.3; weight = refl };
        weighs = record { path = parts.1; last = c.last; leads = way.2; final = c.final; word = sym parts.4; weight = refl };
        weight = c.weight ∙ (ap (λ (z : Cost). times kind z (g.final c.last)) products ∙ times_assoc kind _ _ _);
      }

  -- and put together
  pub join_word : (x rest : List ℕ) (q : ℕ) (v u : Cost) → Spells kind g x q v → Weighs kind g q rest u → WordWeighs kind g (x ++ rest) (times kind v u)
  join_word x rest q v u s c = record {
    first = s.first;
    starts = s.starts;
    weighs = record {
      path = s.path ++ c.path;
      last = c.last;
      leads = IsPath-append g s.path c.path s.first q c.last s.leads c.leads;
      final = c.final;
      word = sym (ap label_word (letters-append s.path c.path) ∙ (label_word-append (letters s.path) (letters c.path) ∙ ap₂ (◌++◌) s.reads (sym c.word)));
      weight = ap₂ (times kind) s.weight c.weight ∙ (sym (times_assoc kind _ _ _) ∙ ap (λ (z : Cost). times kind z (g.final c.last)) (sym products));
    };
  }
    where
      products : product kind (letters (s.path ++ c.path)) ≡ times kind (product kind (letters s.path)) (product kind (letters c.path))
      products = ap (product kind) (letters-append s.path c.path) ∙ product-append kind (letters s.path) (letters c.path)

  module _ (x : List ℕ) (by : Cost) (members : List Member) (is : IsSubset kind g x by members) where
    -- what a member stands for: the best weight by which the word reaches its state
    pub member_spells : (m : Member) → Has members m → Spells kind g x m.state (times kind by m.residual)
    member_spells m has = let st = member_stands kind g weighted x by members is m has in subst (Spells kind g x m.state) (sym st.undone) st.spells

    pub member_least : (m : Member) (v : Cost) → Has members m → Spells kind g x m.state v → plus (times kind by m.residual) v ≡ times kind by m.residual
    member_least m v has s = let st = member_stands kind g weighted x by members is m has in subst (λ (z : Cost). plus z v ≡ z) (sym st.undone) (st.least v s)

    -- and each state that the word reaches has its member
    pub member_there : (q : ℕ) (v : Cost) → Spells kind g x q v → (r : Cost) × Has members (record { state = q; residual = r })
    member_there q v s = is.all q v s (spells_weighs kind g weighted x q v s).1

    pub member_accessible : (q : ℕ) (v : Cost) → Spells kind g x q v → IsAccessible g q
    member_accessible q v s = record { first = s.first; path = s.path; starts = s.starts; leads = s.leads }

    -- a state goes on in one of these ways, of which this is the best
    module _ (Goes : ℕ → Cost → Type 0) (ahead : ℕ → Cost) (surest : (q : ℕ) (v : Cost) → Spells kind g x q v → IsLeast (Goes q) (ahead q)) where
      -- the word and a way to go on have this weight together
      abbrev pub Together : Cost → Type 0
      Together w = (q : ℕ) × (v : Cost) × (u : Cost) × Spells kind g x q v × Goes q u × (w ≡ times kind v u)

      abbrev pub weigh : Member → Cost
      weigh m = times kind by (times kind m.residual (ahead m.state))

      together_below : (w : Cost) → Together w → plus (best_by weigh members) w ≡ best_by weigh members
      together_below w (q, v, u, s, goes, weight) =
          let has = member_there q v s in
          let m : Member = record { state = q; residual = has.0 } in
          let front = member_least m v has.1 s in
          let back = least_below (Goes q) (ahead q) u (surest q v s) goes in
          let both : plus (times kind (times kind by has.0) (ahead q)) (times kind v u) ≡ times kind (times kind by has.0) (ahead q)
          = plus_trans _ (times kind v (ahead q)) _ (keeps_times kind (ahead q) _ v front) (times_keeps kind v (ahead q) u back) in
          let outer : plus (times kind (times kind by has.0) (ahead q)) w ≡ times kind (times kind by has.0) (ahead q)
          = subst (λ (z : Cost). plus (times kind (times kind by has.0) (ahead q)) z ≡ times kind (times kind by has.0) (ahead q)) (sym weight) both in
          let own : plus (weigh m) w ≡ weigh m = subst (λ (z : Cost). plus z w ≡ z) (times_assoc kind by has.0 (ahead q)) outer in
          plus_trans (best_by weigh members) (weigh m) w (least_below _ (best_by weigh members) (weigh m) (best_least weigh members) (m, has.1, refl)) own

      not_left : (a b : Cost) → times kind a b ≢ infinite → a ≢ infinite
      not_left a b not e = not (ap (λ (z : Cost). times kind z b) e ∙ zero_times kind b)

      not_right : (a b : Cost) → times kind a b ≢ infinite → b ≢ infinite
      not_right a b not e = not (ap (times kind a) e ∙ times_zero kind a)

      together_there : best_by weigh members ≢ infinite → Together (best_by weigh members)
      together_there not =
          let w = (least_reached _ (best_by weigh members) (best_least weigh members) not).0 in
          let m = w.0 in
          let solid : weigh m ≢ infinite = λ e. not (w.2 ∙ e) in
          let parts : times kind (times kind by m.residual) (ahead m.state) ≢ infinite = λ e. solid (sym (times_assoc kind by m.residual (ahead m.state)) ∙ e) in
          let front = member_spells m w.1 in
          let back = (least_reached (Goes m.state) (ahead m.state) (surest m.state (times kind by m.residual) front) (not_right _ _ parts)).0 in
          (m.state, times kind by m.residual, ahead m.state, front, back, w.2 ∙ sym (times_assoc kind by m.residual (ahead m.state)))

      pub together_least : ((q : ℕ) (u : Cost) → Goes q u → u ≢ infinite) → IsLeast Together (best_by weigh members)
      together_least solid = by_zero (zero_or_not (best_by weigh members))
        where
          none : best_by weigh members ≡ infinite → (w : Cost) → Together w → ⊥
          none e w (q, v, u, s, goes, weight) =
              let below = together_below w (q, v, u, s, goes, weight) in
              let is_zero : w ≡ infinite = sym (plus_infinite w) ∙ (plus_comm w infinite ∙ (ap (λ (z : Cost). plus z w) (sym e) ∙ (below ∙ e))) in
              by_part (times_only_zero kind v u (sym weight ∙ is_zero))
            where
              by_part : (v ≡ infinite) ⊎ (u ≡ infinite) → ⊥
              by_part (inl e) = (spells_weighs kind g weighted x q v s).1 e
              by_part (inr e) = solid q u goes e

          by_zero : (best_by weigh members ≡ infinite) ⊎ (best_by weigh members ≢ infinite) → IsLeast Together (best_by weigh members)
          by_zero (inl e) = inl (none e, e)
          by_zero (inr not) = inr (together_there not, together_below)

    abbrev OnwardWeighs : ℕ → Cost → Type 0
    OnwardWeighs q u = (rest : List ℕ) × Weighs kind g q rest u

    goes_on_least : (d : ℕ → Cost) → ((q : ℕ) → IsAccessible g q → IsFinalDistance kind g q (d q)) → (q : ℕ) (v : Cost) → Spells kind g x q v → IsLeast (OnwardWeighs q) (d q)
    goes_on_least d far q v s = least_same (Finishes kind g q) (OnwardWeighs q) (d q) to from (far q (member_accessible q v s))
      where
        to : (u : Cost) → Finishes kind g q u → OnwardWeighs q u
        to u f = (label_word (letters f.path), record { path = f.path; last = f.last; leads = f.leads; final = f.final; word = refl; weight = f.weight })

        from : (u : Cost) → OnwardWeighs q u → Finishes kind g q u
        from u (rest, c) = record { last = c.last; path = c.path; leads = c.leads; final = c.final; weight = c.weight }

    stops_least : (q : ℕ) (v : Cost) → Spells kind g x q v → IsLeast (Weighs kind g q []) (g.final q)
    stops_least q v s = by_zero (zero_or_not (g.final q))
      where
        final_of : (u : Cost) → Weighs kind g q [] u → (u ≡ g.final q) × (g.final q ≢ infinite)
        final_of u c =
            let none = no_word c.path (sym c.word) in
            let here : q ≡ c.last = subst (λ (ts : List (Transition ℕ)). IsPath g q ts c.last) none c.leads in
            let product_one = ap (λ (ts : List (Transition ℕ)). product kind (letters ts)) none in
            (c.weight ∙ (ap₂ (times kind) product_one (ap g.final (sym here)) ∙ one_times kind (g.final q)), λ e. c.final (ap g.final (sym here) ∙ e))

        by_zero : (g.final q ≡ infinite) ⊎ (g.final q ≢ infinite) → IsLeast (Weighs kind g q []) (g.final q)
        by_zero (inl e) = inl ((λ u c. (final_of u c).1 e), e)
        by_zero (inr not) = inr (
          record { path = []; last = q; leads = refl; final = not; word = refl; weight = sym (one_times kind (g.final q)) },
          λ u c. ap (plus (g.final q)) (final_of u c).0 ∙ plus_same (g.final q),
        )

    -- the weight of the string itself
    pub weighs_least : IsLeast (WordWeighs kind g x) (best_total kind g.final by members)
    weighs_least = least_same (Together (λ q u. Weighs kind g q [] u) g.final stops_least) (WordWeighs kind g x) (best_total kind g.final by members) to from
        (together_least (λ q u. Weighs kind g q [] u) g.final stops_least (λ q u c. weighs_solid q [] u c))
      where
        to : (w : Cost) → Together (λ q u. Weighs kind g q [] u) g.final stops_least w → WordWeighs kind g x w
        to w (q, v, u, s, c, weight) = subst (WordWeighs kind g x) (sym weight) (subst (λ (z : List ℕ). WordWeighs kind g z (times kind v u)) (append-nil x) (join_word x [] q v u s c))

        from : (w : Cost) → WordWeighs kind g x w → Together (λ q u. Weighs kind g q [] u) g.final stops_least w
        from w h = let c = cut_word x [] w (subst (λ (z : List ℕ). WordWeighs kind g z w) (sym (append-nil x)) h) in (c.state, c.front, c.back, c.spells, c.weighs, c.weight)

    -- the best weight of all strings that begin so
    pub ahead_least : (d : ℕ → Cost) → ((q : ℕ) → IsAccessible g q → IsFinalDistance kind g q (d q)) → IsLeast (PrefixWeighs kind g x) (best_total kind d by members)
    ahead_least d far = least_same (Together OnwardWeighs d (goes_on_least d far)) (PrefixWeighs kind g x) (best_total kind d by members) to from
        (together_least OnwardWeighs d (goes_on_least d far) (λ q u c. weighs_solid q c.0 u c.1))
      where
        to : (w : Cost) → Together OnwardWeighs d (goes_on_least d far) w → PrefixWeighs kind g x w
        to w (q, v, u, s, c, weight) = record { rest = c.0; whole = subst (WordWeighs kind g (x ++ c.0)) (sym weight) (join_word x c.0 q v u s c.1) }

        from : (w : Cost) → PrefixWeighs kind g x w → Together OnwardWeighs d (goes_on_least d far) w
        from w h = let c = cut_word x h.rest w h.whole in (c.state, c.front, c.back, c.spells, (h.rest, c.weighs), c.weight)

    -- the least number of labels that are left is that of a string
    pub shortest_there : (total : Cost) (count : ℕ) → IsShortest kind g by total members count → (rest : List ℕ) × WordWeighs kind g (x ++ rest) total × (length rest ≡ count)
    shortest_there total count h =
        let u = h.goes.0 in
        let weight : times kind (times kind by h.member.residual) u ≡ total = times_assoc kind by h.member.residual u ∙ h.goes.2 in
        (h.rest, subst (WordWeighs kind g (x ++ h.rest)) weight (join_word x h.rest h.member.state _ u (member_spells h.member h.there) h.goes.1), h.long)

    -- and no string of this weight has fewer
    pub shortest_least : (d : ℕ → Cost) → ((q : ℕ) → IsAccessible g q → IsFinalDistance kind g q (d q)) → (count : ℕ) (rest : List ℕ)
        → IsShortest kind g by (best_total kind d by members) members count → WordWeighs kind g (x ++ rest) (best_total kind d by members) → count ≤ length rest
    shortest_least d far count rest h spelled =
        let total = best_total kind d by members in
        let c = cut_word x rest total spelled in
        let has = member_there c.state c.front c.spells in
        let m : Member = record { state = c.state; residual = has.0 } in
        let front = member_least m c.front has.1 c.spells in
        let one : plus (times kind (times kind by has.0) c.back) total ≡ times kind (times kind by has.0) c.back
        = subst (λ (z : Cost). plus (times kind (times kind by has.0) c.back) z ≡ times kind (times kind by has.0) c.back) (sym c.weight) (keeps_times kind c.back _ c.front front) in
        let joined : PrefixWeighs kind g x (times kind (times kind by has.0) c.back) = record { rest = rest; whole = join_word x rest c.state _ c.back (member_spells m has.1) c.weighs } in
        let two : plus total (times kind (times kind by has.0) c.back) ≡ total = least_below (PrefixWeighs kind g x) total _ (ahead_least d far) joined in
        let same : times kind (times kind by has.0) c.back ≡ total = plus_antisym _ total one two in
        h.least m rest has.1 (c.back, c.weighs, sym (times_assoc kind by has.0 c.back) ∙ same)

  pub prefix_laws : (d : ℕ → Cost) → ((q : ℕ) → IsAccessible g q → IsFinalDistance kind g q (d q))
      → (x : List ℕ) (by : Cost) (members : List Member) → IsSubset kind g x by members → PrefixLaws kind g d x by members
  prefix_laws d far x by members is = record {
    weighs = weighs_least x by members is;
    ahead = ahead_least x by members is d far;
    shortest = λ count h. shortest_there x by members is (best_total kind d by members) count h;
    least = λ count rest h spelled. shortest_least x by members is d far count rest h spelled;
  }
