-- The arcs of a name from parts of the lists of arcs of its two states.
use Rattle.std.proofs.Common.{◌≡◌, ◌≢◌, ◌⊎◌, inl, inr, ℕ, zero, suc, ◌+◌, ◌-◌, ◌<◌, ◌≤◌, cond, List, [], ◌∷◌, ◌++◌, length, map, take, drop, get_or, refl, sym, ap, ap₂, ◌∙◌, subst, arith, append-nil, append_assoc, Result, Ok, Err}
use Rattle.std.specs.Result.{OnOk}
use Rattle.std.proofs.Math.Seq.{take-add}
use Rattle.std.proofs.lemmas.Bool.{cases_lt, ne_eqb}
use Rattle.std.proofs.lemmas.Grind.{flat_map-append}
use Rattle.std.proofs.lemmas.List.{get_or_default, get_or-drop, get_or-take, length-drop, length-take-le, map-append, take-append-drop, take_rest}
use Rattle.std.proofs.lemmas.List.Folds.{drop_split}
use Rattle.std.specs.List.{All, flat_map, slice_range}
use Rattle.fst_semiring.specs.Cost.{Cost}
use Rattle.fst_semiring.specs.declared.arc_type.ArcType.{ArcType}
use Rattle.fst_machine.specs.Machine.{Arc, valued_arc}
use Rattle.fst_trim.specs.declared.side.Side.{Side}
use Rattle.fst_trim.specs.declared.side.Side.TheVariants.{Input, Output}
use Rattle.fst_trim.specs.Runs.{IsRun}
use Rattle.fst_trim.specs.Sides.{StandsBy, label_of}
use Rattle.fst_compose.specs.Composition.{both_arc, by_label, first_alone, first_arcs, match_arcs, second_alone, second_arcs}
use Rattle.fst_compose.specs.Matching.{all_matches, name_arcs}
use Rattle.fst_compose.specs.Names.{Name}

-- parts of a list
front_all : {X : Type 0} (P : X → Type 0) (xs : List X) (i : ℕ) → i ≤ length xs → ((k : ℕ) (d : X) → k < i → P (get_or xs k d)) → All P (take i xs)
front_all P xs i within h k d low = let here : k < i = omega (arith, length-take-le i xs within) in subst P (sym (get_or-take i xs k d here)) (h k d here)

back_all : {X : Type 0} (P : X → Type 0) (xs : List X) (i : ℕ) → i ≤ length xs → ((k : ℕ) (d : X) → i ≤ k → k < length xs → P (get_or xs k d)) → All P (drop i xs)
back_all P xs i within h k d low = subst P (sym (get_or-drop i xs k d)) (h (i + k) d (omega arith) (omega (arith, length-drop i xs)))

middle_all : {X : Type 0} (P : X → Type 0) (xs : List X) (i j : ℕ) → i ≤ j → j ≤ length xs → ((k : ℕ) (d : X) → i ≤ k → k < j → P (get_or xs k d)) → All P (slice_range xs i j)
middle_all P xs i j order within h k d low =
    let room : j - i ≤ length (drop i xs) = omega (arith, length-drop i xs) in
    let here : k < j - i = omega (arith, length-take-le (j - i) (drop i xs) room) in
    subst P (sym (get_or-take (j - i) (drop i xs) k d here ∙ get_or-drop i xs k d)) (h (i + k) d (omega arith) (omega arith))

three_parts : {X : Type 0} (xs : List X) (i j : ℕ) → i ≤ j → xs ≡ take i xs ++ (slice_range xs i j ++ drop j xs)
three_parts xs i j order = sym (take-append-drop i xs) ∙ ap (λ ys. take i xs ++ ys) (drop_split xs i j order)

-- what stands from a place on is no longer than the list
pub rest_short : {X : Type 0} (xs : List X) (i : ℕ) → length (slice_range xs i (length xs)) ≤ length xs
rest_short xs i = omega (arith, ap length (take_rest xs i), length-drop i xs)

longer_front : {X : Type 0} (xs : List X) (i j : ℕ) → i ≤ j → take j xs ≡ take i xs ++ slice_range xs i j
longer_front xs i j order = let whole : j ≡ i + (j - i) = omega arith in ap (λ n. take n xs) whole ∙ take-add i (j - i) xs

module _ {X Y Z : Type 0} (v : X → Y) where
  -- elements that bring nothing
  flat_none : (f : Y → List Z) (xs : List X) → All (λ x. f (v x) ≡ []) xs → flat_map f (map v xs) ≡ []
  flat_none f [] all = refl
  flat_none f (x ∷ xs) all = ap (λ zs. zs ++ flat_map f (map v xs)) (all 0 x (omega arith)) ∙ flat_none f xs (λ k d low. all (suc k) d (omega (arith, low)))

  -- and that bring the same by two functions
  flat_same : (f g : Y → List Z) (xs : List X) → All (λ x. f (v x) ≡ g (v x)) xs → flat_map f (map v xs) ≡ flat_map g (map v xs)
  flat_same f g [] all = refl
  flat_same f g (x ∷ xs) all = ap₂ (λ (ys zs : List Z). ys ++ zs) (all 0 x (omega arith)) (flat_same f g xs (λ k d low. all (suc k) d (omega (arith, low))))

  flat_parts : (f : Y → List Z) (xs ys : List X) → flat_map f (map v (xs ++ ys)) ≡ flat_map f (map v xs) ++ flat_map f (map v ys)
  flat_parts f xs ys = ap (flat_map f) (map-append v xs ys) ∙ flat_map-append f (map v xs) (map v ys)

  -- only what stands before a place brings something
  pub front_alone : (f : Y → List Z) (xs : List X) (i : ℕ) → All (λ x. f (v x) ≡ []) (drop i xs) → flat_map f (map v xs) ≡ flat_map f (map v (take i xs))
  front_alone f xs i none =
      ap (λ (zs : List X). flat_map f (map v zs)) (sym (take-append-drop i xs)) ∙ (flat_parts f (take i xs) (drop i xs) ∙ (ap (λ (zs : List Z). flat_map f (map v (take i xs)) ++ zs) (flat_none f (drop i xs) none) ∙ append-nil (flat_map f (map v (take i xs)))))

  -- only what stands from a place on does
  pub back_alone : (f : Y → List Z) (xs : List X) (i : ℕ) → All (λ x. f (v x) ≡ []) (take i xs) → flat_map f (map v xs) ≡ flat_map f (map v (drop i xs))
  back_alone f xs i none =
      ap (λ (zs : List X). flat_map f (map v zs)) (sym (take-append-drop i xs)) ∙ (flat_parts f (take i xs) (drop i xs) ∙ ap (λ (zs : List Z). zs ++ flat_map f (map v (drop i xs))) (flat_none f (take i xs) none))

  -- only what stands between two places does
  pub middle_alone : (f : Y → List Z) (xs : List X) (i j : ℕ) → i ≤ j → All (λ x. f (v x) ≡ []) (take i xs) → All (λ x. f (v x) ≡ []) (drop j xs) → flat_map f (map v xs) ≡ flat_map f (map v (slice_range xs i j))
  middle_alone f xs i j order before after =
      back_alone f xs i before ∙ (ap (λ (zs : List X). flat_map f (map v zs)) (drop_split xs i j order) ∙ (flat_parts f (slice_range xs i j) (drop j xs) ∙ (ap (λ (zs : List Z). flat_map f (map v (slice_range xs i j)) ++ zs) (flat_none f (drop j xs) after) ∙ append-nil (flat_map f (map v (slice_range xs i j))))))

by_label_more : {X : Type 0} (k : ℕ) (a b : X) → 0 < k → by_label k a b ≡ b
by_label_more zero a b low = absurd (omega arith)
by_label_more (suc k) a b low = refl

-- what stands behind the last arc with epsilon has other labels
pub labels_after : {V : Type 0} (side : Side) (xs : List (Arc V ℕ)) (last : ℕ) → StandsBy side xs → ((d : Arc V ℕ) → last < length xs → label_of side (get_or xs last d) ≢ 0) → (k : ℕ) (d : Arc V ℕ) → last ≤ k → k < length xs → 0 < label_of side (get_or xs k d)
labels_after side xs last sorted next k d past low = let other = next d (omega arith) in let more = sorted last k d past low in omega arith

module _ {V : Type 0} (kind : ArcType) (value : V → Cost) where
  miss : (x : Arc Cost ℕ) (y : Arc V ℕ) → x.olabel ≢ y.ilabel → match_arcs kind x (valued_arc value y) ≡ []
  miss x y other = ap (λ b. cond b (both_arc kind x (valued_arc value y) ∷ []) []) (ne_eqb x.olabel y.ilabel other)

  -- an arc of the first machine matches those of a run alone
  run_alone : (x : Arc Cost ℕ) (ys : List (Arc V ℕ)) (first last : ℕ) → IsRun Input x.olabel ys first last → flat_map (match_arcs kind x) (map (valued_arc value) ys) ≡ flat_map (match_arcs kind x) (map (valued_arc value) (slice_range ys first last))
  run_alone x ys first last run =
      middle_alone (valued_arc value) (match_arcs kind x) ys first last run.order
      (front_all (λ (y : Arc V ℕ). match_arcs kind x (valued_arc value y) ≡ []) ys first (omega (arith, run.order, run.within)) (λ k d low. miss x (get_or ys k d) (let less = run.before k d low in omega arith)))
      (back_all (λ (y : Arc V ℕ). match_arcs kind x (valued_arc value y) ≡ []) ys last run.within (λ k d past low. miss x (get_or ys k d) (let more = run.after k d past low in omega arith)))

  -- the arcs so far, and those that it makes with a run
  pub run_whole : (x a : Arc V ℕ) (ys : List (Arc V ℕ)) (first last : ℕ) (old new : List (Arc Cost (Name ℕ ℕ))) → x ≡ a → IsRun Input x.olabel ys first last → new ≡ old ++ flat_map (match_arcs kind (valued_arc value x)) (map (valued_arc value) (slice_range ys first last))
      → new ≡ old ++ flat_map (match_arcs kind (valued_arc value a)) (map (valued_arc value) ys)
  run_whole x a ys first last old new same run made =
      let whole : flat_map (match_arcs {N = ℕ} {M = ℕ} kind (valued_arc value x)) (map (valued_arc value) ys) ≡ flat_map (match_arcs kind (valued_arc value a)) (map (valued_arc value) ys) = ap (λ (z : Arc V ℕ). flat_map (match_arcs kind (valued_arc value z)) (map (valued_arc value) ys)) same in
      made ∙ ap (λ zs. old ++ zs) (sym (run_alone (valued_arc value x) ys first last run) ∙ whole)

  -- which are none where there is no run
  pub run_none : (x a : Arc V ℕ) (ys : List (Arc V ℕ)) (place : ℕ) (old new : List (Arc Cost (Name ℕ ℕ))) → x ≡ a → IsRun Input x.olabel ys place place → new ≡ old → new ≡ old ++ flat_map (match_arcs kind (valued_arc value a)) (map (valued_arc value) ys)
  run_none x a ys place old new same run kept =
      let none : place - place ≡ 0 = omega arith in
      let nothing : [] ≡ flat_map (match_arcs {N = ℕ} {M = ℕ} kind (valued_arc value x)) (map (valued_arc value) (slice_range ys place place)) = sym (ap (λ n. flat_map (match_arcs {N = ℕ} {M = ℕ} kind (valued_arc value x)) (map (valued_arc value) (take n (drop place ys)))) none) in
      run_whole x a ys place place old new same run (kept ∙ (sym (append-nil old) ∙ ap (λ zs. old ++ zs) nothing))

  -- arcs of the first machine with greater labels than all of the second match none
  pub rest_none : (xs ys : List (Arc V ℕ)) (at : ℕ) → at ≤ length xs → ((i j : ℕ) (d e : Arc V ℕ) → at ≤ i → i < length xs → j < length ys → (get_or ys j e).ilabel < (get_or xs i d).olabel)
      → all_matches {N = ℕ} {M = ℕ} kind (map (valued_arc value) xs) (map (valued_arc value) ys) ≡ all_matches kind (map (valued_arc value) (take at xs)) (map (valued_arc value) ys)
  rest_none xs ys at within lower =
      front_alone (valued_arc value) (λ (x : Arc Cost ℕ). flat_map (match_arcs {N = ℕ} {M = ℕ} kind x) (map (valued_arc value) ys)) xs at
      (back_all (λ (x : Arc V ℕ). flat_map (match_arcs {N = ℕ} {M = ℕ} kind (valued_arc value x)) (map (valued_arc value) ys) ≡ []) xs at within
      (λ i d past low. flat_none (valued_arc value) (match_arcs kind (valued_arc value (get_or xs i d))) ys (λ j e less. miss (valued_arc value (get_or xs i d)) (get_or ys j e) (let below = lower i j d e past low less in omega arith))))

  pub first_found : (n : Name ℕ ℕ) (x : Arc Cost ℕ) (ys : List (Arc V ℕ)) (first last : ℕ) → 0 < x.olabel → IsRun Input x.olabel ys first last → first_arcs kind n (map (valued_arc value) (slice_range ys first last)) x ≡ first_arcs kind n (map (valued_arc value) ys) x
  first_found n x ys first last more run =
      by_label_more x.olabel (by_label n.filter (first_alone n x ∷ []) []) (flat_map (match_arcs kind x) (map (valued_arc value) (slice_range ys first last))) more ∙ (sym (run_alone x ys first last run)
      ∙ sym (by_label_more x.olabel (by_label n.filter (first_alone n x ∷ []) []) (flat_map (match_arcs kind x) (map (valued_arc value) ys)) more))

  -- those of the second machine that go alone stand at the front
  pub seconds_front : (n : Name ℕ ℕ) (ys : List (Arc V ℕ)) (last : ℕ) → last ≤ length ys → ((k : ℕ) (d : Arc V ℕ) → last ≤ k → k < length ys → 0 < (get_or ys k d).ilabel) → flat_map (second_arcs n) (map (valued_arc value) ys) ≡ flat_map (second_arcs n) (map (valued_arc value) (take last ys))
  seconds_front n ys last within after =
      front_alone (valued_arc value) (second_arcs n) ys last
      (back_all (λ (y : Arc V ℕ). second_arcs n (valued_arc value y) ≡ []) ys last within (λ k d past low. by_label_more (get_or ys k d).ilabel (second_alone n (valued_arc value (get_or ys k d)) ∷ []) [] (after k d past low)))

  -- those of the first that go alone stand at the front, and the others match arcs with labels
  firsts_drop : (n : Name ℕ ℕ) (xs ys : List (Arc V ℕ)) (alone epsilons : ℕ) → alone ≤ length xs → epsilons ≤ length ys
      → ((k : ℕ) (d : Arc V ℕ) → alone ≤ k → k < length xs → 0 < (get_or xs k d).olabel) → ((k : ℕ) (d : Arc V ℕ) → k < epsilons → (get_or ys k d).ilabel ≡ 0)
      → flat_map (first_arcs kind n (map (valued_arc value) ys)) (map (valued_arc value) xs) ≡ flat_map (first_arcs kind n (map (valued_arc value) ys)) (map (valued_arc value) (take alone xs)) ++ all_matches kind (map (valued_arc value) (drop alone xs)) (map (valued_arc value) (drop epsilons ys))
  firsts_drop n xs ys alone epsilons within room after none =
      let f = first_arcs {N = ℕ} {M = ℕ} kind n (map (valued_arc value) ys) in
      let g = λ (x : Arc Cost ℕ). flat_map (match_arcs kind x) (map (valued_arc value) (drop epsilons ys)) in
      ap (λ (zs : List (Arc V ℕ)). flat_map f (map (valued_arc value) zs)) (sym (take-append-drop alone xs)) ∙ (flat_parts (valued_arc value) f (take alone xs) (drop alone xs)
      ∙ ap (λ (zs : List (Arc Cost (Name ℕ ℕ))). flat_map f (map (valued_arc value) (take alone xs)) ++ zs) (flat_same (valued_arc value) f g (drop alone xs)
      (back_all (λ (x : Arc V ℕ). f (valued_arc value x) ≡ g (valued_arc value x)) xs alone within (λ k d past low. each (get_or xs k d) (after k d past low)))))
    where
      each : (x : Arc V ℕ) → 0 < x.olabel → first_arcs kind n (map (valued_arc value) ys) (valued_arc value x) ≡ flat_map (match_arcs kind (valued_arc value x)) (map (valued_arc value) (drop epsilons ys))
      each x more =
          by_label_more x.olabel (by_label n.filter (first_alone n (valued_arc value x) ∷ []) []) (flat_map (match_arcs kind (valued_arc value x)) (map (valued_arc value) ys)) more
          ∙ back_alone (valued_arc value) (match_arcs kind (valued_arc value x)) ys epsilons
          (front_all (λ (y : Arc V ℕ). match_arcs kind (valued_arc value x) (valued_arc value y) ≡ []) ys epsilons room (λ k d low. miss (valued_arc value x) (get_or ys k d) (let zero_label = none k d low in omega arith)))

  pub firsts_parts : (n : Name ℕ ℕ) (xs ys : List (Arc V ℕ)) (alone epsilons : ℕ) → alone ≤ length xs → epsilons ≤ length ys
      → ((k : ℕ) (d : Arc V ℕ) → alone ≤ k → k < length xs → 0 < (get_or xs k d).olabel) → ((k : ℕ) (d : Arc V ℕ) → k < epsilons → (get_or ys k d).ilabel ≡ 0)
      → flat_map (first_arcs kind n (map (valued_arc value) ys)) (map (valued_arc value) xs) ≡ flat_map (first_arcs kind n (map (valued_arc value) ys)) (map (valued_arc value) (take alone xs)) ++ all_matches kind (map (valued_arc value) (slice_range xs alone (length xs))) (map (valued_arc value) (slice_range ys epsilons (length ys)))
  firsts_parts n xs ys alone epsilons within room after none =
      firsts_drop n xs ys alone epsilons within room after none
      ∙ ap₂ (λ (us ws : List (Arc V ℕ)). flat_map (first_arcs kind n (map (valued_arc value) ys)) (map (valued_arc value) (take alone xs)) ++ all_matches kind (map (valued_arc value) us) (map (valued_arc value) ws)) (sym (take_rest xs alone)) (sym (take_rest ys epsilons))

  -- The next arcs of the second machine with one label match a run of the first alone, and that run none before them.
  pub matches_more : (xs ys : List (Arc V ℕ)) (taken place stop first last label : ℕ) → IsRun Output label xs first last → taken ≤ first → place ≤ stop → stop ≤ length ys
      → ((i j : ℕ) (d e : Arc V ℕ) → taken ≤ i → i < length xs → j < place → (get_or ys j e).ilabel < (get_or xs i d).olabel)
      → ((k : ℕ) (d : Arc V ℕ) → place ≤ k → k < stop → (get_or ys k d).ilabel ≡ label)
      → all_matches kind (map (valued_arc value) xs) (map (valued_arc value) (take stop ys)) ≡ all_matches kind (map (valued_arc value) xs) (map (valued_arc value) (take place ys)) ++ all_matches kind (map (valued_arc value) (slice_range xs first last)) (map (valued_arc value) (slice_range ys place stop))
  matches_more xs ys taken place stop first last label run after order within high same = whole
    where
      v : Arc V ℕ → Arc Cost ℕ
      v = valued_arc value

      made : List (Arc V ℕ) → Arc Cost ℕ → List (Arc Cost (Name ℕ ℕ))
      made zs x = flat_map (match_arcs kind x) (map v zs)

      old_none : (x : Arc V ℕ) → ((k : ℕ) (d : Arc V ℕ) → k < place → (get_or ys k d).ilabel < x.olabel) → made (take place ys) (v x) ≡ []
      old_none x less = flat_none v (match_arcs kind (v x)) (take place ys) (front_all (λ (y : Arc V ℕ). match_arcs kind (v x) (v y) ≡ []) ys place (omega arith) (λ k d low. miss (v x) (get_or ys k d) (let below = less k d low in omega arith)))

      new_none : (x : Arc V ℕ) → x.olabel ≢ label → made (slice_range ys place stop) (v x) ≡ []
      new_none x other = flat_none v (match_arcs kind (v x)) (slice_range ys place stop) (middle_all (λ (y : Arc V ℕ). match_arcs kind (v x) (v y) ≡ []) ys place stop order within (λ k d past low. miss (v x) (get_or ys k d) (let is = same k d past low in omega arith)))

      both_parts : (x : Arc V ℕ) → made (take stop ys) (v x) ≡ made (take place ys) (v x) ++ made (slice_range ys place stop) (v x)
      both_parts x = ap (λ (zs : List (Arc V ℕ)). made zs (v x)) (longer_front ys place stop order) ∙ flat_parts v (match_arcs kind (v x)) (take place ys) (slice_range ys place stop)

      front : flat_map (made (take stop ys)) (map v (take first xs)) ≡ flat_map (made (take place ys)) (map v (take first xs))
      front = flat_same v (made (take stop ys)) (made (take place ys)) (take first xs)
          (front_all (λ (x : Arc V ℕ). made (take stop ys) (v x) ≡ made (take place ys) (v x)) xs first (omega (arith, run.order, run.within))
          (λ k d low. both_parts (get_or xs k d) ∙ (ap (λ zs. made (take place ys) (v (get_or xs k d)) ++ zs) (new_none (get_or xs k d) (let less = run.before k d low in omega arith)) ∙ append-nil (made (take place ys) (v (get_or xs k d))))))

      middle : flat_map (made (take stop ys)) (map v (slice_range xs first last)) ≡ flat_map (made (slice_range ys place stop)) (map v (slice_range xs first last))
      middle = flat_same v (made (take stop ys)) (made (slice_range ys place stop)) (slice_range xs first last)
          (middle_all (λ (x : Arc V ℕ). made (take stop ys) (v x) ≡ made (slice_range ys place stop) (v x)) xs first last run.order run.within
          (λ k d past low. both_parts (get_or xs k d) ∙ ap (λ zs. zs ++ made (slice_range ys place stop) (v (get_or xs k d))) (old_none (get_or xs k d) (λ j e less. high k j d e (omega arith) (omega (arith, run.within)) less))))

      middle_old : flat_map (made (take place ys)) (map v (slice_range xs first last)) ≡ []
      middle_old = flat_none v (made (take place ys)) (slice_range xs first last)
          (middle_all (λ (x : Arc V ℕ). made (take place ys) (v x) ≡ []) xs first last run.order run.within (λ k d past low. old_none (get_or xs k d) (λ j e less. high k j d e (omega arith) (omega (arith, run.within)) less)))

      back : flat_map (made (take stop ys)) (map v (drop last xs)) ≡ []
      back = flat_none v (made (take stop ys)) (drop last xs)
          (back_all (λ (x : Arc V ℕ). made (take stop ys) (v x) ≡ []) xs last run.within
          (λ k d past low. both_parts (get_or xs k d) ∙ ap₂ (λ (zs ws : List (Arc Cost (Name ℕ ℕ))). zs ++ ws) (old_none (get_or xs k d) (λ j e less. high k j d e (omega (arith, run.order)) low less)) (new_none (get_or xs k d) (let more = run.after k d past low in omega arith))))

      back_old : flat_map (made (take place ys)) (map v (drop last xs)) ≡ []
      back_old = flat_none v (made (take place ys)) (drop last xs)
          (back_all (λ (x : Arc V ℕ). made (take place ys) (v x) ≡ []) xs last run.within (λ k d past low. old_none (get_or xs k d) (λ j e less. high k j d e (omega (arith, run.order)) low less)))

      split : (f : Arc Cost ℕ → List (Arc Cost (Name ℕ ℕ))) → flat_map f (map v xs) ≡ flat_map f (map v (take first xs)) ++ (flat_map f (map v (slice_range xs first last)) ++ flat_map f (map v (drop last xs)))
      split f = ap (λ (zs : List (Arc V ℕ)). flat_map f (map v zs)) (three_parts xs first last run.order) ∙ (flat_parts v f (take first xs) (slice_range xs first last ++ drop last xs) ∙ ap (λ zs. flat_map f (map v (take first xs)) ++ zs) (flat_parts v f (slice_range xs first last) (drop last xs)))

      kept : flat_map (made (take place ys)) (map v xs) ≡ flat_map (made (take place ys)) (map v (take first xs))
      kept = split (made (take place ys)) ∙ (ap₂ (λ (zs ws : List (Arc Cost (Name ℕ ℕ))). flat_map (made (take place ys)) (map v (take first xs)) ++ (zs ++ ws)) middle_old back_old ∙ append-nil (flat_map (made (take place ys)) (map v (take first xs))))

      grown : flat_map (made (take stop ys)) (map v xs) ≡ flat_map (made (take place ys)) (map v (take first xs)) ++ flat_map (made (slice_range ys place stop)) (map v (slice_range xs first last))
      grown = split (made (take stop ys)) ∙ (ap₂ (λ (zs ws : List (Arc Cost (Name ℕ ℕ))). zs ++ ws) front (ap₂ (λ (zs ws : List (Arc Cost (Name ℕ ℕ))). zs ++ ws) middle back ∙ append-nil (flat_map (made (slice_range ys place stop)) (map v (slice_range xs first last)))))

      whole : flat_map (made (take stop ys)) (map v xs) ≡ flat_map (made (take place ys)) (map v xs) ++ flat_map (made (slice_range ys place stop)) (map v (slice_range xs first last))
      whole = grown ∙ ap (λ zs. zs ++ flat_map (made (slice_range ys place stop)) (map v (slice_range xs first last))) (sym kept)

  -- no arcs match none
  pub none_matched : (xs : List (Arc V ℕ)) (old : List (Arc Cost (Name ℕ ℕ))) → old ≡ old ++ all_matches {N = ℕ} {M = ℕ} kind (map (valued_arc value) xs) []
  none_matched xs old = sym (ap (λ zs. old ++ zs) (flat_none (valued_arc value) (λ x. flat_map (match_arcs {N = ℕ} {M = ℕ} kind x) []) xs (λ k d low. refl)) ∙ append-nil old)

  -- and the arcs so far, and those that the next run brings
  pub runs_more : (xs ys : List (Arc V ℕ)) (place stop first last : ℕ) (old mid new : List (Arc Cost (Name ℕ ℕ)))
      → all_matches kind (map (valued_arc value) xs) (map (valued_arc value) (take stop ys)) ≡ all_matches kind (map (valued_arc value) xs) (map (valued_arc value) (take place ys)) ++ all_matches kind (map (valued_arc value) (slice_range xs first last)) (map (valued_arc value) (slice_range ys place stop))
      → mid ≡ old ++ all_matches kind (map (valued_arc value) xs) (map (valued_arc value) (take place ys)) → new ≡ mid ++ all_matches kind (map (valued_arc value) (slice_range xs first last)) (map (valued_arc value) (slice_range ys place stop))
      → new ≡ old ++ all_matches kind (map (valued_arc value) xs) (map (valued_arc value) (take stop ys))
  runs_more xs ys place stop first last old mid new whole before more =
      let added = all_matches {N = ℕ} {M = ℕ} kind (map (valued_arc value) (slice_range xs first last)) (map (valued_arc value) (slice_range ys place stop)) in
      more ∙ (ap (λ zs. zs ++ added) before ∙ (append_assoc old (all_matches kind (map (valued_arc value) xs) (map (valued_arc value) (take place ys))) added ∙ ap (λ zs. old ++ zs) (sym whole)))

-- The next arcs of the second list with one label, and the run of the first with it.
module _ {V : Type 0} (xs ys : List (Arc V ℕ)) (sorted : StandsBy Input ys) (place stop first last label : ℕ) (run : IsRun Output label xs first last) (b : Arc V ℕ) (at : (get_or ys place b).ilabel ≡ label)
    (inside : place < length ys) (order : place ≤ stop) (within : stop ≤ length ys) (here : (k : ℕ) (d : Arc V ℕ) → place ≤ k → k < stop → (get_or ys k d).ilabel ≡ label) (next : (d : Arc V ℕ) → stop < length ys → (get_or ys stop d).ilabel ≢ label) where
  pub goes_on : place < stop
  goes_on = by_order (cases_lt place stop)
    where
      by_order : (place < stop) ⊎ (stop ≤ place) → place < stop
      by_order (inl more) = more
      by_order (inr not) = let same : place ≡ stop = omega arith in absurd (next b (omega arith) (subst (λ (n : ℕ). (get_or ys n b).ilabel ≡ label) same at))

  -- those of the first up to the end of the run have lower labels than those of the second behind it
  pub run_low : (i j : ℕ) (d e : Arc V ℕ) → i < last → stop ≤ j → j < length ys → (get_or xs i d).olabel < (get_or ys j e).ilabel
  run_low i j d e before past low = by_order (cases_lt i first)
    where
      above : label < (get_or ys j e).ilabel
      above = let least = sorted (stop - 1) stop e (omega arith) (omega arith) in let is = here (stop - 1) e (omega (arith, goes_on)) (omega (arith, goes_on)) in let other = next e (omega arith) in let more = sorted stop j e past low in omega arith

      by_order : (i < first) ⊎ (first ≤ i) → (get_or xs i d).olabel < (get_or ys j e).ilabel
      by_order (inl less) = let below = run.before i d less in omega (arith, above)
      by_order (inr in_run) = let is = run.here i d in_run before in omega (arith, above)

  -- and the others greater ones than those before
  pub run_high : (i j : ℕ) (d e : Arc V ℕ) → last ≤ i → i < length xs → j < stop → (get_or ys j e).ilabel < (get_or xs i d).olabel
  run_high i j d e past low before =
      let least = sorted j (stop - 1) e (omega arith) (omega (arith, goes_on)) in
      let is = here (stop - 1) e (omega (arith, goes_on)) (omega (arith, goes_on)) in
      let more = run.after i d past low in
      omega arith

-- A run that is gone along: its first place comes behind the lower labels, and its last before the next other one.
pub run_along : {V : Type 0} (ys : List (Arc V ℕ)) (label first last : ℕ) → StandsBy Input ys → first ≤ last → last ≤ length ys
    → ((k : ℕ) (d : Arc V ℕ) → k < first → (get_or ys k d).ilabel < label) → ((d : Arc V ℕ) → first < length ys → label ≤ (get_or ys first d).ilabel)
    → ((k : ℕ) (d : Arc V ℕ) → first ≤ k → k < last → (get_or ys k d).ilabel ≡ label) → ((d : Arc V ℕ) → last < length ys → (get_or ys last d).ilabel ≢ label) → IsRun Input label ys first last
run_along ys label first last sorted order within before from here ends = record {
  order = order;
  within = within;
  before = before;
  here = here;
  after = λ k d past low. let least = from d (omega arith) in let more = sorted first last d order (omega arith) in let other = ends d (omega arith) in let above = sorted last k d past low in omega arith;
}

-- lower labels than that of an arc are lower than those of the arcs from it on
pub still_lower : {V : Type 0} (xs ys : List (Arc V ℕ)) (x a : Arc V ℕ) (at first : ℕ) → StandsBy Output xs → at < length xs → x ≡ a → a ≡ get_or xs at a → ((k : ℕ) (d : Arc V ℕ) → k < first → (get_or ys k d).ilabel < x.olabel)
    → (i j : ℕ) (d e : Arc V ℕ) → at ≤ i → i < length xs → j < first → (get_or ys j e).ilabel < (get_or xs i d).olabel
still_lower {V} xs ys x a at first sorted inside same is before i j d e past low less =
    let label = ap (λ (z : Arc V ℕ). z.olabel) (same ∙ (is ∙ get_or_default xs at a d inside)) in
    let more = sorted at i d past low in
    let below = before j e less in
    omega arith

-- an answer that says more
pub ok_more : {X E : Type 0} (r : Result X E) (P Q : Type 0) → (P → Q) → OnOk r P → OnOk r Q
ok_more (Ok x) P Q more h = more h
ok_more (Err e) P Q more h = h

-- the arcs of a name, those that the second machine makes alone behind the others
pub name_whole : {X : Type 0} (firsts seconds some old mid new : List X) → seconds ≡ some → mid ≡ old ++ firsts → new ≡ mid ++ some → new ≡ old ++ (firsts ++ seconds)
name_whole firsts seconds some old mid new same before more = more ∙ (ap (λ zs. zs ++ some) before ∙ (append_assoc old firsts some ∙ ap (λ zs. old ++ (firsts ++ zs)) (sym same)))

-- and the others in two parts
pub two_wholes : {X : Type 0} (firsts alone others old mid new : List X) → firsts ≡ alone ++ others → mid ≡ old ++ alone → new ≡ mid ++ others → new ≡ old ++ firsts
two_wholes firsts alone others old mid new same before more = more ∙ (ap (λ zs. zs ++ others) before ∙ (append_assoc old alone others ∙ ap (λ zs. old ++ zs) (sym same)))

-- The arcs of a name of two states in order: those that the first machine makes alone, those of each two with one label, and
-- those that the second machine makes alone.
pub order_whole : {V : Type 0} (kind : ArcType) (value : V → Cost) (n : Name ℕ ℕ) (xs ys : List (Arc V ℕ)) (alone epsilons : ℕ) → StandsBy Output xs → StandsBy Input ys → alone ≤ length xs → epsilons ≤ length ys
    → ((d : Arc V ℕ) → alone < length xs → (get_or xs alone d).olabel ≢ 0) → ((k : ℕ) (d : Arc V ℕ) → 0 ≤ k → k < epsilons → (get_or ys k d).ilabel ≡ 0) → ((d : Arc V ℕ) → epsilons < length ys → (get_or ys epsilons d).ilabel ≢ 0)
    → (old some mid new : List (Arc Cost (Name ℕ ℕ))) → some ≡ old ++ flat_map (first_arcs kind n (map (valued_arc value) ys)) (map (valued_arc value) (take alone xs))
    → mid ≡ some ++ all_matches kind (map (valued_arc value) (slice_range xs alone (length xs))) (map (valued_arc value) (slice_range ys epsilons (length ys)))
    → new ≡ mid ++ flat_map (second_arcs n) (map (valued_arc value) (take epsilons ys)) → new ≡ old ++ name_arcs kind n (map (valued_arc value) xs) (map (valued_arc value) ys)
order_whole kind value n xs ys alone epsilons first second within room next here ends old some mid new alone_put both_put more =
    let seconds = seconds_front kind value n ys epsilons room (labels_after Input ys epsilons second ends) in
    let firsts = firsts_parts kind value n xs ys alone epsilons within room (labels_after Output xs alone first next) (λ k d low. here k d (omega arith) low) in
    name_whole _ _ _ _ _ _ seconds (two_wholes _ _ _ _ _ _ firsts alone_put both_put) more
