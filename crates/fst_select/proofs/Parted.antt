-- An open prefix is taken apart into the fronts of its parts, and the part that comes first leads.
use Rattle.std.proofs.Common.{◌≡◌, ◌≢◌, ◌⊎◌, inl, inr, ℕ, ◌+◌, ◌≤◌, zero, suc, Bool, true, false, true≢false, List, [], ◌∷◌, ◌++◌, length, map, take, refl, sym, ap, ap₂, ◌∙◌, subst, append_assoc, append-nil, arith}
use Rattle.std.proofs.Common.{Ordering, Less, Equal, Greater}
use Rattle.std.specs.Ordering.{is_gt, nat_cmp, ordering_then}
use Rattle.std.specs.Cmp.{nat_cmp_is}
use Rattle.std.specs.Cmp.Lexicographic.{slice_cmp}
use Rattle.std.specs.List.{All}
use Rattle.std.specs.List.Sorted.{IsPermutation}
use Rattle.std.proofs.lemmas.List.{append_cancel_left, length-append}
use Rattle.std.proofs.lemmas.List.Sorted.{IsPermutation-map, IsPermutation-sym}
use Rattle.fst_semiring.specs.Cost.{Cost, cost_cmp, infinite}
use Rattle.fst_semiring.specs.Semiring.{times}
use Rattle.fst_semiring.specs.declared.arc_type.ArcType.{ArcType}
use Rattle.fst_semiring.proofs.Order.{cost_cmp_equal}
use Rattle.fst_machine.specs.BreadthFirst as lists
use Rattle.fst_machine.specs.BreadthFirst.{Has}
use Rattle.fst_machine.specs.Cycles.{IsAccessible}
use Rattle.fst_machine.specs.Distance.{IsFinalDistance}
use Rattle.fst_machine.specs.Graph.{Graph}
use Rattle.fst_trim.specs.Weighed.{IsWeighted}
use Rattle.fst_trim.specs.WordWeights.{WordWeighs}
use Rattle.fst_determinize.specs.Subsets.{IsSubset, Member}
use Rattle.fst_determinize.proofs.Best as bests
use Rattle.fst_determinize.proofs.Elements.{Has_map}
use Rattle.fst_determinize.proofs.Runs.{All_Has}
use Rattle.fst_determinize.proofs.Spelling.{spells_back}
use Rattle.fst_nbest.specs.Entries.{list_at, most_long}
use Rattle.fst_nbest.specs.Words.{NoLess, WeightedWord}
use Rattle.fst_nbest.proofs.Covering.{Has-permutation}
use Rattle.fst_nbest.proofs.Ranks.{NoLess-antisym, NoLess-trans, nat_less, nat_same, then_first}
use Rattle.fst_nbest.proofs.SortedTurns.{Apart-permutation}
use Rattle.fst_select.specs.declared.entry.Entry.{Entry}
use Rattle.fst_select.specs.Entries.{AreEntries, CanCompare, IsEntry, front_of, prefix_of, sibling_cmp, tail_of}
use Rattle.fst_select.specs.Frontier.{AllDisjoint, ComesFirst, Covers, CoversBy, Disjoint, Front, IsKey, IsParted, front_cmp}
use Rattle.fst_select.specs.Keys.{IsShortest, best_total}
use Rattle.fst_select.specs.Outlook.{IsDue}
use Rattle.fst_select.specs.Parting.{AreParts, IsClosedPart, IsOpenPart, number_by, part_number}
use Rattle.fst_select.specs.Strings.{IsPlain, IsSpelled}
use Rattle.fst_select.proofs.BranchFronts.{closed_key, open_key}
use Rattle.fst_select.proofs.SearchFronts.{first_same}
use Rattle.fst_select.proofs.Shortest.{shortest_exists, shortest_once}
use Rattle.fst_select.proofs.Stricts.{strictly_before}
use Rattle.fst_select.proofs.SubsetKeys.{member_spells}

-- a comparison before one that ties
then_tie : (o : Ordering) → ordering_then o Equal ≡ o
then_tie Less = refl
then_tie Equal = refl
then_tie Greater = refl

-- prefixes that differ in their last labels alone compare by these
tails_compare : (x : List ℕ) (s t : ℕ) → slice_cmp nat_cmp (x ++ tail_of s) (x ++ tail_of t) ≡ nat_cmp s t
tails_compare [] zero zero = sym (nat_same 0)
tails_compare [] zero (suc t) = sym (nat_less 0 (suc t) (omega arith))
tails_compare [] (suc s) zero = nat_cmp_is (suc s) 0 Greater (omega arith)
tails_compare [] (suc s) (suc t) = then_tie (nat_cmp (suc s) (suc t))
tails_compare (k ∷ x) s t = ap (λ (o : Ordering). ordering_then o (slice_cmp nat_cmp (x ++ tail_of s) (x ++ tail_of t))) (nat_same k) ∙ tails_compare x s t

-- weights alone, of strings that come in this order
weights_only : (a b : Cost) (i j : ℕ) → NoLess a i b j → NoLess a 0 b 0
weights_only a b i j (inl less) = inl less
weights_only a b i j (inr tie) = inr (tie.0, omega arith)

-- what does not come later has no worse weight
not_later : (a b : Cost) (o : Ordering) → is_gt (ordering_then (cost_cmp a b) o) ≡ false → NoLess a 0 b 0
not_later a b o h = by_order (cost_cmp a b) refl
  where
    by_order : (p : Ordering) → cost_cmp a b ≡ p → NoLess a 0 b 0
    by_order Less e = inl e
    by_order Equal e = inr (cost_cmp_equal a b e, omega arith)
    by_order Greater e = absurd (true≢false (sym (ap (λ (q : Ordering). is_gt (ordering_then q o)) e) ∙ h))

-- the number of the part in which what is behind the prefix is
abbrev number_of : List ℕ → ℕ
number_of [] = 0
number_of (label ∷ rest) = suc label

-- The parts of a front, as the program keeps them: the first is due, and its front leads.
pub record PartedBy {D : Type 0} (kind : ArcType) (g : Graph ℕ) (value : D → Cost) (due : Cost) (words : List (List ℕ)) (subsets : List (List Member))
    (whole : Front) (core : Entry D) (others : List (Entry D)) : Type 0 where
  pub fronts : List Front
  pub entries : AreEntries kind g value due words subsets others fronts
  pub first : IsEntry kind g value due words subsets core (front_of value words core)
  pub parted : IsParted (IsSpelled kind g) whole (front_of value words core) fronts
  pub ready : IsDue kind due (value core.total)

module _ {D : Type 0} (kind : ArcType) (g : Graph ℕ) (weighted : IsWeighted kind g) (plain : IsPlain g) (d : ℕ → Cost)
    (far : (q : ℕ) → IsAccessible g q → IsFinalDistance kind g q (d q)) (due : Cost) (value : D → Cost)
    (x : List ℕ) (owner depth : ℕ) (words : List (List ℕ)) (subsets : List (List Member)) (parts : List (Entry D)) (h : AreParts kind g d due value x owner depth subsets parts)
    (long : length x ≡ depth) (few : depth ≤ most_long) (begins : take depth (list_at words owner) ≡ x) (within : depth ≤ length (list_at words owner)) where
  prefix_is : (e : Entry D) → e.owner ≡ owner → e.depth ≡ depth → prefix_of words e ≡ x ++ tail_of e.tail
  prefix_is e own deep = ap (λ (p : List ℕ). p ++ tail_of e.tail) (ap₂ (λ (n i : ℕ). take n (list_at words i)) deep own ∙ begins)

  compares : (e : Entry D) → e.owner ≡ owner → e.depth ≡ depth → CanCompare words e
  compares e own deep = record {
    depth = subst (λ (i : ℕ). e.depth ≤ length (list_at words i)) (sym own) (omega (arith, deep, within));
    few = omega (arith, deep, few);
  }

  -- the front of a part
  record IsFace (e : Entry D) (f : Front) : Type 0 where
    pub entry : IsEntry kind g value due words subsets e f
    pub key : IsKey (IsSpelled kind g) f

  closed_face : (e : Entry D) → IsClosedPart kind g value h.by h.members owner depth e → (f : Front) × IsFace e f
  closed_face e c =
      let prefix : prefix_of words e ≡ x = prefix_is e c.same_owner c.same_depth ∙ (ap (λ (t : ℕ). x ++ tail_of t) c.tail ∙ append-nil x) in
      let f : Front = record { prefix = x; closed = true; total = best_total kind g.final h.by h.members; long = length x } in (
        f,
        record {
          entry = record {
            prefix = sym prefix;
            closed = sym c.closed;
            total = sym c.total;
            long = λ is. long ∙ sym c.long;
            compare = compares e c.same_owner c.same_depth;
            short = λ is. c.tail;
            subset = λ not. absurd (true≢false (sym c.closed ∙ not));
          };
          key = closed_key kind g weighted d far x h.by h.members h.subset (λ none. c.solid (c.total ∙ none));
        },
      )

  -- the label of a part of which strings go on
  pub tail_is : (e : Entry D) → (o : IsOpenPart kind g d due value x owner depth subsets e) → tail_of e.tail ≡ e.tail ∷ []
  tail_is e o =
      let weigh : Member → Cost = λ m. times kind (value e.by) (times kind m.residual (d m.state)) in
      let not : best_total kind d (value e.by) o.members ≢ infinite = λ none. o.goes.solid (o.goes.total ∙ none) in
      let some = (bests.least_reached (bests.Weighs weigh o.members) (best_total kind d (value e.by) o.members) (bests.best_least weigh o.members) not).0 in
      let spells = member_spells kind g weighted (x ++ e.tail ∷ []) (value e.by) o.members o.subset some.0 some.1 in
      let back = spells_back kind g x e.tail some.0.state (times kind (value e.by) some.0.residual) spells in
      let label = plain.1 back.state back.place back.arc back.has in
      subst (λ (t : ℕ). tail_of t ≡ t ∷ []) (sym label.1 ∙ back.reads) refl

  open_face : (e : Entry D) → IsOpenPart kind g d due value x owner depth subsets e → (f : Front) × IsFace e f
  open_face e o =
      let y : List ℕ = x ++ e.tail ∷ [] in
      let prefix : prefix_of words e ≡ y = prefix_is e o.goes.same_owner o.goes.same_depth ∙ ap (λ (t : List ℕ). x ++ t) (tail_is e o) in
      let not : best_total kind d (value e.by) o.members ≢ infinite = λ none. o.goes.solid (o.goes.total ∙ none) in
      let c = shortest_exists kind g weighted d far y (value e.by) o.members o.subset not in
      let f : Front = record { prefix = y; closed = false; total = best_total kind d (value e.by) o.members; long = length y + c.0 } in
      let known : IsDue kind due (value e.total) → length y + c.0 ≡ e.long = λ is.
      let own = o.goes.long is in
      let once = shortest_once kind g (value e.by) (value e.total) o.members own.0 c.0 own.1 (subst (λ (t : Cost). IsShortest kind g (value e.by) t o.members c.0) (sym o.goes.total) c.1) in
      omega (arith, length-append x (e.tail ∷ []), long, once, own.2) in (
        f,
        record {
          entry = record {
            prefix = sym prefix;
            closed = sym o.goes.closed;
            total = sym o.goes.total;
            long = known;
            compare = compares e o.goes.same_owner o.goes.same_depth;
            short = λ is. absurd (true≢false (sym is ∙ o.goes.closed));
            subset = λ is. (o.members, o.there, subst (λ (p : List ℕ). IsSubset kind g p (value e.by) o.members) (sym prefix) o.subset);
          };
          key = open_key kind g weighted d far y (value e.by) o.members o.subset c.0 not c.1;
        },
      )

  has_face : (e : Entry D) → Has parts e → (f : Front) × IsFace e f
  has_face e there = by_part (h.each e there)
    where
      by_part : IsClosedPart kind g value h.by h.members owner depth e ⊎ IsOpenPart kind g d due value x owner depth subsets e → (f : Front) × IsFace e f
      by_part (inl c) = closed_face e c
      by_part (inr o) = open_face e o

  pub prefix_of_part : (e : Entry D) → Has parts e → prefix_of words e ≡ x ++ tail_of e.tail
  prefix_of_part e there = by_part (h.each e there)
    where
      by_part : IsClosedPart kind g value h.by h.members owner depth e ⊎ IsOpenPart kind g d due value x owner depth subsets e → prefix_of words e ≡ x ++ tail_of e.tail
      by_part (inl c) = prefix_is e c.same_owner c.same_depth
      by_part (inr o) = prefix_is e o.goes.same_owner o.goes.same_depth

  -- the strings of a part are those behind the prefix with its number
  covers_from : (e : Entry D) (f : Front) → Has parts e → IsFace e f → (y : List ℕ) → Covers f y → (rest : List ℕ) × (y ≡ x ++ rest) × (number_of rest ≡ part_number e)
  covers_from e f there face y covers = by_part (h.each e there)
    where
      by_part : IsClosedPart kind g value h.by h.members owner depth e ⊎ IsOpenPart kind g d due value x owner depth subsets e
          → (rest : List ℕ) × (y ≡ x ++ rest) × (number_of rest ≡ part_number e)
      by_part (inl c) =
          let prefix : f.prefix ≡ x ++ [] = face.entry.prefix ∙ (prefix_is e c.same_owner c.same_depth ∙ ap (λ (t : ℕ). x ++ tail_of t) c.tail) in
          let own : y ≡ f.prefix = subst (λ (b : Bool). CoversBy b f.prefix y) (face.entry.closed ∙ c.closed) covers in
          ([], own ∙ prefix, ap (λ (b : Bool). number_by b e.tail) (sym c.closed))
      by_part (inr o) =
          let prefix : f.prefix ≡ x ++ e.tail ∷ [] = face.entry.prefix ∙ (prefix_is e o.goes.same_owner o.goes.same_depth ∙ ap (λ (t : List ℕ). x ++ t) (tail_is e o)) in
          let own : (rest : List ℕ) × (y ≡ f.prefix ++ rest) = subst (λ (b : Bool). CoversBy b f.prefix y) (face.entry.closed ∙ o.goes.closed) covers in
          (e.tail ∷ own.0, own.1 ∙ (ap (λ (p : List ℕ). p ++ own.0) prefix ∙ append_assoc x (e.tail ∷ []) own.0), ap (λ (b : Bool). number_by b e.tail) (sym o.goes.closed))

  covers_back : (e : Entry D) (f : Front) → Has parts e → IsFace e f → (rest : List ℕ) → number_of rest ≡ part_number e → Covers f (x ++ rest)
  covers_back e f there face rest number = by_part (h.each e there) rest number
    where
      by_part : IsClosedPart kind g value h.by h.members owner depth e ⊎ IsOpenPart kind g d due value x owner depth subsets e
          → (rest : List ℕ) → number_of rest ≡ part_number e → Covers f (x ++ rest)
      by_part (inl c) [] number =
          let prefix : f.prefix ≡ x ++ [] = face.entry.prefix ∙ (prefix_is e c.same_owner c.same_depth ∙ ap (λ (t : ℕ). x ++ tail_of t) c.tail) in
          subst (λ (b : Bool). CoversBy b f.prefix (x ++ [])) (sym (face.entry.closed ∙ c.closed)) (sym prefix)
      by_part (inl c) (label ∷ rest) number = absurd (let own : part_number e ≡ 0 = ap (λ (b : Bool). number_by b e.tail) c.closed in omega (arith, number, own))
      by_part (inr o) [] number = absurd (let own : part_number e ≡ suc e.tail = ap (λ (b : Bool). number_by b e.tail) o.goes.closed in omega (arith, number, own))
      by_part (inr o) (label ∷ rest) number =
          let own : part_number e ≡ suc e.tail = ap (λ (b : Bool). number_by b e.tail) o.goes.closed in
          let label_is : label ≡ e.tail = omega (arith, number, own) in
          let prefix : f.prefix ≡ x ++ e.tail ∷ [] = face.entry.prefix ∙ (prefix_is e o.goes.same_owner o.goes.same_depth ∙ ap (λ (t : List ℕ). x ++ t) (tail_is e o)) in
          let word : x ++ label ∷ rest ≡ f.prefix ++ rest = ap (λ (l : ℕ). x ++ l ∷ rest) label_is ∙ (sym (append_assoc x (e.tail ∷ []) rest) ∙ ap (λ (p : List ℕ). p ++ rest) (sym prefix)) in
          subst (λ (b : Bool). CoversBy b f.prefix (x ++ label ∷ rest)) (sym (face.entry.closed ∙ o.goes.closed)) (rest, word)

  -- so two parts have no string in common
  faces_disjoint : (e k : Entry D) (f j : Front) → Has parts e → Has parts k → IsFace e f → IsFace k j → (part_number e ≡ part_number k → ⊥) → Disjoint f j
  faces_disjoint e k f j there other face face_k differ y covers covers_k =
      let one = covers_from e f there face y covers in
      let two = covers_from k j other face_k y covers_k in
      let rest : one.0 ≡ two.0 = append_cancel_left x one.0 two.0 (sym one.1 ∙ two.1) in
      differ (sym one.2 ∙ (ap number_of rest ∙ two.2))

  -- and each string that begins with the prefix is in one
  in_some : (rest : List ℕ) (w : Cost) → WordWeighs kind g (x ++ rest) w → (e : Entry D) × Has parts e × (number_of rest ≡ part_number e)
  in_some [] w says =
      let e = h.stops w (subst (λ (y : List ℕ). WordWeighs kind g y w) (append-nil x) says) in
      (e.0, e.1, ap (λ (b : Bool). number_by b e.0.tail) (sym e.2))
  in_some (label ∷ rest) w says =
      let e = h.goes label rest w says in
      (e.0, e.1, ap suc (sym e.3) ∙ ap (λ (b : Bool). number_by b e.0.tail) (sym e.2))

  -- the fronts of some of the parts
  record Faces (es : List (Entry D)) : Type 0 where
    pub fronts : List Front
    pub entries : AreEntries kind g value due words subsets es fronts
    pub from : (f : Front) → Has fronts f → (e : Entry D) × Has es e × IsFace e f
    pub to : (e : Entry D) → Has es e → (f : Front) × Has fronts f × IsFace e f
    pub disjoint : AllDisjoint fronts

  faces : (es : List (Entry D)) → ((e : Entry D) → Has es e → Has parts e) → lists.Apart (map part_number es) → Faces es
  faces [] inside apart = record { fronts = []; entries = tt; from = λ f none. absurd none; to = λ e none. absurd none; disjoint = tt }
  faces (e ∷ es) inside apart =
      let own = has_face e (inside e (inl refl)) in
      let rest = faces es (λ k there. inside k (inr there)) apart.1 in
      let apart_from : (f : Front) → Has rest.fronts f → Disjoint own.0 f = λ f there.
      let k = rest.from f there in
      faces_disjoint e k.0 own.0 f (inside e (inl refl)) (inside k.0 (inr k.1)) own.1 k.2
      (λ equal. apart.0 (subst (λ (n : ℕ). Has (map part_number es) n) (sym equal) (Has_map part_number es k.0 k.1))) in
      record {
        fronts = own.0 ∷ rest.fronts;
        entries = (own.1.entry, rest.entries);
        from = λ f there. from own rest f there;
        to = λ k there. to own rest k there;
        disjoint = (apart_from, rest.disjoint);
      }
    where
      from : (own : (f : Front) × IsFace e f) (rest : Faces es) (f : Front) → Has (own.0 ∷ rest.fronts) f → (k : Entry D) × Has (e ∷ es) k × IsFace k f
      from own rest f (inl equal) = (e, inl refl, subst (IsFace e) equal own.1)
      from own rest f (inr there) = let k = rest.from f there in (k.0, inr k.1, k.2)

      to : (own : (f : Front) × IsFace e f) (rest : Faces es) (k : Entry D) → Has (e ∷ es) k → (f : Front) × Has (own.0 ∷ rest.fronts) f × IsFace k f
      to own rest k (inl equal) = (own.0, inl refl, subst (λ (z : Entry D). IsFace z own.0) equal own.1)
      to own rest k (inr there) = let f = rest.to k there in (f.0, inr f.1, f.2)

  -- The part that comes first has the weight and the length of the whole.
  module _ (whole : Front) (prefix : whole.prefix ≡ x) (is_open : whole.closed ≡ false) (key : IsKey (IsSpelled kind g) whole) (is_due : IsDue kind due whole.total)
      (core : Entry D) (others : List (Entry D)) (moved : IsPermutation parts (core ∷ others)) (least : All (λ e. is_gt (sibling_cmp value core e) ≡ false) others) where
    inside_parts : (e : Entry D) → Has (core ∷ others) e → Has parts e
    inside_parts e there = Has-permutation parts (core ∷ others) e moved there

    among : (e : Entry D) → Has parts e → Has (core ∷ others) e
    among e there = Has-permutation (core ∷ others) parts e (IsPermutation-sym parts (core ∷ others) moved) there

    core_there : Has parts core
    core_there = inside_parts core (inl refl)

    numbers_apart : lists.Apart (map part_number (core ∷ others))
    numbers_apart = Apart-permutation (map part_number parts) (map part_number (core ∷ others)) (IsPermutation-map part_number parts (core ∷ others) moved) h.apart

    in_whole : (y rest : List ℕ) → y ≡ x ++ rest → Covers whole y
    in_whole y rest word = subst (λ (b : Bool). CoversBy b whole.prefix y) (sym is_open) (rest, word ∙ ap (λ (p : List ℕ). p ++ rest) (sym prefix))

    from_whole : (y : List ℕ) → Covers whole y → (rest : List ℕ) × (y ≡ x ++ rest)
    from_whole y covers =
        let own : (rest : List ℕ) × (y ≡ whole.prefix ++ rest) = subst (λ (b : Bool). CoversBy b whole.prefix y) is_open covers in
        (own.0, own.1 ∙ ap (λ (p : List ℕ). p ++ own.0) prefix)

    inside_whole : (e : Entry D) (f : Front) → Has parts e → IsFace e f → (y : List ℕ) → Covers f y → Covers whole y
    inside_whole e f there face y covers = let c = covers_from e f there face y covers in in_whole y c.0 c.1

    no_worse : (e : Entry D) → Has (core ∷ others) e → NoLess (value core.total) 0 (value e.total) 0
    no_worse e (inl equal) = subst (λ (z : Entry D). NoLess (value core.total) 0 (value z.total) 0) equal (inr (refl, omega arith))
    no_worse e (inr there) = not_later (value core.total) (value e.total) _ (All_Has (λ z. is_gt (sibling_cmp value core z) ≡ false) others e least there)

    total_is : value core.total ≡ whole.total
    total_is =
        let own = has_face core core_there in
        let word = from_whole key.word key.inside in
        let says : IsSpelled kind g (x ++ word.0) whole.total = subst (λ (y : List ℕ). IsSpelled kind g y whole.total) word.1 key.weighs in
        let holder = in_some word.0 whole.total says.0 in
        let face = has_face holder.0 holder.1 in
        let covers = covers_back holder.0 face.0 holder.1 face.1 word.0 holder.2 in
        let low : NoLess (value holder.0.total) 0 whole.total 0 = subst (λ (t : Cost). NoLess t 0 whole.total 0) face.1.entry.total
        (weights_only face.0.total whole.total face.0.long _ (face.1.key.least (x ++ word.0) whole.total covers says)) in
        let down = NoLess-trans (value core.total) (value holder.0.total) whole.total 0 0 0 (no_worse holder.0 (among holder.0 holder.1)) low in
        let best_word = own.1.key in
        let high = weights_only whole.total own.0.total whole.long _
        (key.least best_word.word own.0.total (inside_whole core own.0 core_there own.1 best_word.word best_word.inside) best_word.weighs) in
        let up : NoLess whole.total 0 (value core.total) 0 = subst (λ (t : Cost). NoLess whole.total 0 t 0) own.1.entry.total high in
        (NoLess-antisym (value core.total) whole.total 0 0 down up).0

    core_due : IsDue kind due (value core.total)
    core_due = subst (IsDue kind due) (sym total_is) is_due

    -- so its length is known
    core_face : IsFace core (front_of value words core)
    core_face =
        let own = has_face core core_there in
        let e = own.1.entry in
        let front : own.0 ≡ front_of value words core = λ i. record { prefix = e.prefix i; closed = e.closed i; total = e.total i; long = e.long core_due i } in
        subst (IsFace core) front own.1

    rest_faces : Faces others
    rest_faces = faces others (λ e there. inside_parts e (inr there)) numbers_apart.1

    differs : (e : Entry D) → Has others e → part_number core ≡ part_number e → ⊥
    differs e there equal = numbers_apart.0 (subst (λ (n : ℕ). Has (map part_number others) n) (sym equal) (Has_map part_number others e there))

    core_apart : (e : Entry D) (f : Front) → Has others e → IsFace e f → Disjoint (front_of value words core) f
    core_apart e f there face = faces_disjoint core e (front_of value words core) f core_there (inside_parts e (inr there)) core_face face (differs e there)

    comes_first : (e : Entry D) (f : Front) → Has others e → IsFace e f → front_cmp (front_of value words core) f ≡ Less
    comes_first e f there face = strictly_before (front_of value words core) f (core_apart e f there face) (by_weight (cost_cmp (value core.total) (value e.total)) refl)
      where
        late : is_gt (sibling_cmp value core e) ≡ false
        late = All_Has (λ z. is_gt (sibling_cmp value core z) ≡ false) others e least there

        total : cost_cmp (value core.total) f.total ≡ cost_cmp (value core.total) (value e.total)
        total = ap (cost_cmp (value core.total)) face.entry.total

        prefixes : slice_cmp nat_cmp (prefix_of words core) f.prefix ≡ nat_cmp core.tail e.tail
        prefixes = ap₂ (slice_cmp nat_cmp) (prefix_of_part core core_there) (face.entry.prefix ∙ prefix_of_part e (inside_parts e (inr there))) ∙ tails_compare x core.tail e.tail

        by_weight : (o : Ordering) → cost_cmp (value core.total) (value e.total) ≡ o → is_gt (front_cmp (front_of value words core) f) ≡ false
        by_weight Less less = ap is_gt (then_first (cost_cmp (value core.total) f.total) _ (total ∙ less))
        by_weight Equal tie =
            let equal : value core.total ≡ value e.total = cost_cmp_equal (value core.total) (value e.total) tie in
            let length_is : f.long ≡ e.long = face.entry.long (subst (IsDue kind due) equal core_due) in
            let rest : ordering_then (nat_cmp core.long f.long) (slice_cmp nat_cmp (prefix_of words core) f.prefix) ≡ ordering_then (nat_cmp core.long e.long) (nat_cmp core.tail e.tail)
            = ap₂ ordering_then (ap (nat_cmp core.long) length_is) prefixes in
            ap is_gt (ap₂ ordering_then total rest) ∙ late
        by_weight Greater greater = absurd (true≢false (sym (ap (λ (o : Ordering). is_gt (ordering_then o (ordering_then (nat_cmp core.long e.long) (nat_cmp core.tail e.tail)))) greater) ∙ late))

    keys : (f : Front) → Has (front_of value words core ∷ rest_faces.fronts) f → IsKey (IsSpelled kind g) f
    keys f (inl equal) = subst (IsKey (IsSpelled kind g)) equal core_face.key
    keys f (inr there) = (rest_faces.from f there).2.key

    inside : (f : Front) (y : List ℕ) → Has (front_of value words core ∷ rest_faces.fronts) f → Covers f y → Covers whole y
    inside f y (inl equal) covers = inside_whole core (front_of value words core) core_there core_face y (subst (λ (z : Front). Covers z y) (sym equal) covers)
    inside f y (inr there) covers = let e = rest_faces.from f there in inside_whole e.0 f (inside_parts e.0 (inr e.1)) e.2 y covers

    all : (b : WeightedWord) → IsSpelled kind g b.word b.weight → Covers whole b.word → (f : Front) × Has (front_of value words core ∷ rest_faces.fronts) f × Covers f b.word
    all b says covers =
        let word = from_whole b.word covers in
        let e = in_some word.0 b.weight (subst (λ (y : List ℕ). WordWeighs kind g y b.weight) word.1 says.0) in
        let f = find e.0 (among e.0 e.1) in
        (f.0, f.1, subst (Covers f.0) (sym word.1) (covers_back e.0 f.0 e.1 f.2 word.0 e.2))
      where
        find : (e : Entry D) → Has (core ∷ others) e → (f : Front) × Has (front_of value words core ∷ rest_faces.fronts) f × IsFace e f
        find e (inl equal) = (front_of value words core, inl refl, subst (λ (z : Entry D). IsFace z (front_of value words core)) equal core_face)
        find e (inr there) = let f = rest_faces.to e there in (f.0, inr f.1, f.2)

    leads : ComesFirst (front_of value words core) rest_faces.fronts
    leads f there = let e = rest_faces.from f there in comes_first e.0 f e.1 e.2

    pub parted : PartedBy kind g value due words subsets whole core others
    parted = record {
      fronts = rest_faces.fronts;
      entries = rest_faces.entries;
      first = core_face.entry;
      parted = record {
        is_open = is_open;
        keys = keys;
        apart = ((λ f there. let e = rest_faces.from f there in core_apart e.0 f e.1 e.2), rest_faces.disjoint);
        inside = inside;
        all = all;
        total = total_is;
        long = (first_same (IsSpelled kind g) whole (front_of value words core) rest_faces.fronts key keys inside all leads).1;
        more = tail_of core.tail;
        prefix = prefix_of_part core core_there ∙ ap (λ (p : List ℕ). p ++ tail_of core.tail) (sym prefix);
        leads = leads;
      };
      ready = core_due;
    }
