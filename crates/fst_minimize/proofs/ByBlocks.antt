-- States divided into blocks: what marks and splits keep, and runs of sorted lists of states under keys.
use Rattle.std.proofs.Common.{◌≡◌, ◌≢◌, ◌⊎◌, inl, inr, ℕ, ◌+◌, ◌<◌, ◌≤◌, List, [], ◌∷◌, ◌++◌, Some, length, get_or, slice_get, sym, refl, ap, ap₂, ◌∙◌, subst, arith}
use Rattle.std.specs.List.Sorted.{IsPermutation, IsNonDecreasingBy}
use Rattle.std.proofs.lemmas.Bool.{cases_eq, cases_lt}
use Rattle.std.proofs.lemmas.List.{length-append}
use Rattle.std.proofs.lemmas.List.Sorted.{IsPermutation-sym}
use Rattle.std.proofs.lemmas.Option.{slice_get-get_or, slice_get_within, get_or_from_slice_get, same_Some}
use Rattle.fst_machine.specs.Graph.{Graph}
use Rattle.fst_machine.proofs.Arcs.{at_append_left}
use Rattle.fst_machine.proofs.Elements.{at_Has, Has_at}
use Rattle.fst_minimize.specs.Behaviour.{Alike}
use Rattle.fst_minimize.specs.Dividing.{AreBelow, InRun, IsBoth, IsRun, KeepsAlike, NoMarks, TakesAlike, TellsMarked, Under}
use Rattle.fst_minimize.specs.Numbered.{TellsApart, number_in}
use Rattle.fst_minimize.specs.Refining.{IsRefined}
use Rattle.fst_minimize.specs.Parts.{IsMarked, Marks, Splits}
use Rattle.fst_minimize.specs.declared.backs.Keyed.{Keyed}
use Rattle.fst_minimize.specs.declared.parts.Parts.{Parts}
use Rattle.fst_minimize.proofs.Moved.{moved_to}
use Rattle.fst_distance.proofs.Lists.{push_last}

pub alike_sym : (g : Graph ℕ) (p q : ℕ) → Alike g g p q → Alike g g q p
alike_sym g p q alike ls w = ((alike ls w).1, (alike ls w).0)

-- a split keeps states with equal behaviour together, and what marks tell
module _ (g : Graph ℕ) (old new : Parts) (state : ℕ) (s : Splits old new state) (tells : TellsMarked g old) (keeps : KeepsAlike g (length old.blocks.items) old.blocks.items) where
  pub split_keeps : KeepsAlike g (length old.blocks.items) new.blocks.items
  split_keeps p q low less alike = by (cases_eq (number_in new.blocks.items p) (number_in new.blocks.items q))
    where
      by : (number_in new.blocks.items p ≡ number_in new.blocks.items q) ⊎ (number_in new.blocks.items p ≢ number_in new.blocks.items q) → number_in new.blocks.items p ≡ number_in new.blocks.items q
      by (inl same) = same
      by (inr other) = absurd (away (s.apart p q low less (keeps p q low less alike) other))
        where
          away : (IsMarked old p × (IsMarked old q → ⊥)) ⊎ (IsMarked old q × (IsMarked old p → ⊥)) → ⊥
          away (inl one) = tells p q low less alike one.0 one.1
          away (inr two) = tells q p less low (alike_sym g p q alike) two.0 two.1

  pub split_tells : TellsMarked g new
  split_tells p q low less alike mark none =
      let p_low : p < length old.blocks.items = let n = s.size in omega arith in
      let q_low : q < length old.blocks.items = let n = s.size in omega arith in
      let was = s.gone p p_low mark in
      let one = keeps p q p_low q_low alike in
      tells p q p_low q_low alike was.0 (λ other. none (s.kept q q_low (λ here. was.1 (one ∙ here)) other))

-- keys before the place are less than those behind it
abbrev pub IsCut : List Keyed → ℕ → Type 0
IsCut items at = (i j : ℕ) (a b : Keyed) → i < at → at ≤ j → slice_get items i ≡ Some a → slice_get items j ≡ Some b → a.key < b.key

-- a part of a list behind the parts before it
module _ (items : List Keyed) (first end : ℕ) where
  pub next_cut : IsCut items first → IsRun items first end → IsCut items end
  next_cut cut run i j a b before behind one two = by (cases_lt i first)
    where
      head : Keyed
      head = get_or items first a

      here : slice_get items first ≡ Some head
      here = let within = run.within in let some = run.some in slice_get-get_or items first a (omega arith)

      by : (i < first) ⊎ (first ≤ i) → a.key < b.key
      by (inl early) = cut i j a b early (let some = run.some in omega arith) one two
      by (inr late) = let same = run.one i head a late before here one in let less = run.other j head b behind here two in omega arith

  -- the states of a run are all that stand under its key
  pub run_tells : (g : Graph ℕ) (old new : Parts) → IsCut items first → IsRun items first end → TakesAlike g (length old.blocks.items) items → NoMarks old → length new.blocks.items ≡ length old.blocks.items
      → ((p : ℕ) → p < length old.blocks.items → IsMarked new p → IsMarked old p ⊎ InRun items first end p) → ((p : ℕ) → InRun items first end p → IsMarked new p) → TellsMarked g new
  run_tells g old new cut run takes unmarked size only all p q low less alike mark none = by (only p p_low mark)
    where
      p_low : p < length old.blocks.items
      p_low = omega arith

      q_low : q < length old.blocks.items
      q_low = omega arith

      by : IsMarked old p ⊎ InRun items first end p → ⊥
      by (inl was) = unmarked p p_low was
      by (inr in_run) = none (all q there)
        where
          item : Keyed
          item = in_run.item

          under : Under items item.key p
          under = at_Has items in_run.place (record { key = item.key; state = p }) (in_run.there ∙ ap (λ (s : ℕ). Some (record { key = item.key; state = s })) in_run.same)

          at : (k : ℕ) × (slice_get items k ≡ Some (record { key = item.key; state = q })) × (k < length items)
          at = Has_at items (record { key = item.key; state = q }) (takes item.key p q p_low q_low alike under)

          head : Keyed
          head = get_or items first item

          here : slice_get items first ≡ Some head
          here = let within = run.within in let some = run.some in slice_get-get_or items first item (omega arith)

          key : item.key ≡ head.key
          key = run.one in_run.place head item in_run.low in_run.within here in_run.there

          not_before : at.0 < first → ⊥
          not_before early = let less = cut at.0 first (record { key = item.key; state = q }) head early (omega arith) at.1 here in let same = key in omega arith

          not_behind : end ≤ at.0 → ⊥
          not_behind late = let less = run.other at.0 head (record { key = item.key; state = q }) late here at.1 in let same = key in omega arith

          low_place : (at.0 < first) ⊎ (first ≤ at.0) → first ≤ at.0
          low_place (inl early) = absurd (not_before early)
          low_place (inr late) = late

          high_place : (at.0 < end) ⊎ (end ≤ at.0) → at.0 < end
          high_place (inl early) = early
          high_place (inr late) = absurd (not_behind late)

          there : InRun items first end q
          there = record { place = at.0; item = record { key = item.key; state = q }; low = low_place (cases_lt at.0 first); within = high_place (cases_lt at.0 end); there = at.1; same = refl }

-- where the keys do not fall, a run ends with the first other key
pub run_ends : (items : List Keyed) (first end : ℕ) → IsNonDecreasingBy (λ (i : Keyed). i.key) items → first < end → end ≤ length items
    → ((i : ℕ) (a b : Keyed) → first ≤ i → i < end → slice_get items first ≡ Some a → slice_get items i ≡ Some b → b.key ≡ a.key)
    → ((a b : Keyed) → slice_get items first ≡ Some a → slice_get items end ≡ Some b → b.key ≢ a.key) → IsRun items first end
run_ends items first end sorted some within one last = record { some = some; within = within; one = one; other = other }
  where
    other : (i : ℕ) (a b : Keyed) → end ≤ i → slice_get items first ≡ Some a → slice_get items i ≡ Some b → a.key < b.key
    other i a b behind here there =
        let i_low = slice_get_within items i b there in
        let e : Keyed = get_or items end a in
        let at : slice_get items end ≡ Some e = slice_get-get_or items end a (omega arith) in
        let up : (get_or items first a).key ≤ (get_or items end a).key = sorted first end a (omega arith) (omega arith) in
        let more : (get_or items end a).key ≤ (get_or items i a).key = sorted end i a behind i_low in
        let first_is : get_or items first a ≡ a = get_or_from_slice_get items first a a here in
        let i_is : get_or items i a ≡ b = get_or_from_slice_get items i b a there in
        let first_key = ap (λ (x : Keyed). x.key) first_is in
        let i_key = ap (λ (x : Keyed). x.key) i_is in
        let apart : e.key ≢ a.key = last a e here at in
        less (cases_lt a.key b.key) (λ same. apart (omega arith))
      where
        less : (a.key < b.key) ⊎ (b.key ≤ a.key) → (b.key ≤ a.key → ⊥) → a.key < b.key
        less (inl l) none = l
        less (inr m) none = absurd (none m)

-- a list in another order has the same states under the same keys
pub moved_under : (old new : List Keyed) → IsPermutation old new → (key p : ℕ) → Under old key p → Under new key p
moved_under old new same key p under =
    let at = Has_at old (record { key = key; state = p }) under in
    let to = moved_to old new at.0 (record { key = key; state = p }) same at.1 in
    at_Has new to.0 (record { key = key; state = p }) to.1

pub moved_takes : (g : Graph ℕ) (n : ℕ) (old new : List Keyed) → IsPermutation old new → TakesAlike g n old → TakesAlike g n new
moved_takes g n old new same takes key p q low less alike under =
    moved_under old new same key q (takes key p q low less alike (moved_under new old (IsPermutation-sym old new same) key p under))

pub moved_below : (n : ℕ) (old new : List Keyed) → IsPermutation old new → AreBelow n old → AreBelow n new
moved_below n old new same below i item there = let to = moved_to new old i item (IsPermutation-sym old new same) there in below to.0 item to.1

-- all states, each under its number
abbrev pub AreNumbered : List ℕ → ℕ → List Keyed → Type 0
AreNumbered numbers done items = (length items ≡ done) × ((i : ℕ) → i < done → slice_get items i ≡ Some (record { key = number_in numbers i; state = i }))

pub numbered_below : (numbers : List ℕ) (items : List Keyed) → AreNumbered numbers (length numbers) items → AreBelow (length numbers) items
numbered_below numbers items h i item there =
    let low : i < length numbers = let l = slice_get_within items i item there in let n = h.0 in omega arith in
    let is : record { key = number_in numbers i; state = i } ≡ item = same_Some (record { key = number_in numbers i; state = i }) item (sym (h.1 i low) ∙ there) in
    subst (λ (s : ℕ). s < length numbers) (ap (λ (x : Keyed). x.state) is) low

pub numbered_takes : (g : Graph ℕ) (numbers : List ℕ) (items : List Keyed) → AreNumbered numbers (length numbers) items → KeepsAlike g (length numbers) numbers → TakesAlike g (length numbers) items
numbered_takes g numbers items h keeps key p q low less alike under =
    let at = Has_at items (record { key = key; state = p }) under in
    let i_low : at.0 < length numbers = let l = at.2 in let n = h.0 in omega arith in
    let is : record { key = number_in numbers at.0; state = at.0 } ≡ record { key = key; state = p } = same_Some (record { key = number_in numbers at.0; state = at.0 }) (record { key = key; state = p }) (sym (h.1 at.0 i_low) ∙ at.1) in
    let state : at.0 ≡ p = ap (λ (x : Keyed). x.state) is in
    let named : number_in numbers at.0 ≡ key = ap (λ (x : Keyed). x.key) is in
    let here : number_in numbers q ≡ key = sym (keeps p q low less alike) ∙ (ap (number_in numbers) (sym state) ∙ named) in
    at_Has items q (record { key = key; state = q }) (h.1 q less ∙ ap (λ (k : ℕ). Some (record { key = k; state = q })) here)

-- a part of a list that is empty, and one that ends later
pub run_empty : (items : List Keyed) (place end p : ℕ) → end ≤ place → InRun items place end p → ⊥
run_empty items place end p done r = let low = r.low in let within = r.within in omega arith

pub run_longer : (items : List Keyed) (first end place p : ℕ) → end ≤ place → InRun items first end p → InRun items first place p
run_longer items first end place p more r = record { place = r.place; item = r.item; low = r.low; within = (let within = r.within in omega arith); there = r.there; same = r.same }

-- a part of a list, and one place more
module _ (items : List Keyed) (first place : ℕ) where
  -- the state in a place
  pub state_at : (n : ℕ) → AreBelow n items → place < length items → (get_or items place (record { key = 0; state = 0 })).state < n
  state_at n below low = below place (get_or items place (record { key = 0; state = 0 })) (slice_get-get_or items place (record { key = 0; state = 0 }) low)

  pub run_own : (p : ℕ) → first ≤ place → place < length items → (get_or items place (record { key = 0; state = 0 })).state ≡ p → InRun items first (place + 1) p
  run_own p low within same = record { place = place; item = get_or items place (record { key = 0; state = 0 }); low = low; within = omega arith; there = slice_get-get_or items place (record { key = 0; state = 0 }) within; same = same }

  item_is : (i : ℕ) (item : Keyed) → slice_get items i ≡ Some item → i ≡ place → (get_or items place (record { key = 0; state = 0 })).state ≡ item.state
  item_is i item there here = ap (λ (x : Keyed). x.state) (get_or_from_slice_get items place item (record { key = 0; state = 0 }) (ap (slice_get items) (sym here) ∙ there))

  pub run_last : (p : ℕ) → InRun items first (place + 1) p → InRun items first place p ⊎ ((get_or items place (record { key = 0; state = 0 })).state ≡ p)
  run_last p r = by (cases_eq r.place place)
    where
      by : (r.place ≡ place) ⊎ (r.place ≢ place) → InRun items first place p ⊎ ((get_or items place (record { key = 0; state = 0 })).state ≡ p)
      by (inl here) = inr (item_is r.place r.item r.there here ∙ r.same)
      by (inr other) = inl (record { place = r.place; item = r.item; low = r.low; within = (let within = r.within in omega arith); there = r.there; same = r.same })

  pub run_left : (end p : ℕ) → InRun items place end p → (p ≡ (get_or items place (record { key = 0; state = 0 })).state → ⊥) → InRun items (place + 1) end p
  run_left end p r away = by (cases_eq r.place place)
    where
      by : (r.place ≡ place) ⊎ (r.place ≢ place) → InRun items (place + 1) end p
      by (inl here) = absurd (away (sym (item_is r.place r.item r.there here ∙ r.same)))
      by (inr other) = record { place = r.place; item = r.item; low = (let low = r.low in omega arith); within = r.within; there = r.there; same = r.same }

pub run_below : (n : ℕ) (items : List Keyed) (first end p : ℕ) → AreBelow n items → InRun items first end p → p < n
run_below n items first end p below r = subst (λ (q : ℕ). q < n) r.same (below r.place r.item r.there)

-- the state in one place more is marked
module _ (old cur new : Parts) (items : List Keyed) (first at : ℕ) (m : Marks cur new (get_or items at (record { key = 0; state = 0 })).state) (size : length cur.blocks.items ≡ length old.blocks.items)
    (low : first ≤ at) (within : at < length items) (below : AreBelow (length old.blocks.items) items) where
  pub marks_only : ((p : ℕ) → p < length old.blocks.items → IsMarked cur p → IsMarked old p ⊎ InRun items first at p) → (p : ℕ) → p < length old.blocks.items → IsMarked new p → IsMarked old p ⊎ InRun items first (at + 1) p
  marks_only only p p_low mark = by (m.there p (omega arith) mark)
    where
      before : IsMarked old p ⊎ InRun items first at p → IsMarked old p ⊎ InRun items first (at + 1) p
      before (inl was) = inl was
      before (inr r) = inr (run_longer items first at (at + 1) p (omega arith) r)

      by : IsMarked cur p ⊎ (p ≡ (get_or items at (record { key = 0; state = 0 })).state) → IsMarked old p ⊎ InRun items first (at + 1) p
      by (inl was) = before (only p p_low was)
      by (inr own) = inr (run_own items first at p low within (sym own))

  pub marks_all : ((p : ℕ) → InRun items first at p → IsMarked cur p) → (p : ℕ) → InRun items first (at + 1) p → IsMarked new p
  marks_all all p r = by (run_last items first at p r)
    where
      by : InRun items first at p ⊎ ((get_or items at (record { key = 0; state = 0 })).state ≡ p) → IsMarked new p
      by (inl was) = m.kept p (let p_low = run_below (length old.blocks.items) items first at p below was in omega arith) (all p was)
      by (inr own) = subst (IsMarked new) own m.own

-- the block of the state in one place more is split
pub splits_left : (cur new : Parts) (items : List Keyed) (at end : ℕ) → Splits cur new (get_or items at (record { key = 0; state = 0 })).state → ((p : ℕ) → p < length cur.blocks.items → IsMarked cur p → InRun items at end p)
    → (p : ℕ) → p < length new.blocks.items → IsMarked new p → InRun items (at + 1) end p
splits_left cur new items at end s left p low mark =
    let p_low : p < length cur.blocks.items = let n = s.size in omega arith in
    let was = s.gone p p_low mark in
    run_left items 0 at end p (left p p_low was.0) (λ own. was.1 (ap (number_in cur.blocks.items) own))

pub split_more : (g : Graph ℕ) (old new : Parts) (state : ℕ) → Splits old new state → TellsMarked g old → KeepsAlike g (length old.blocks.items) old.blocks.items → KeepsAlike g (length new.blocks.items) new.blocks.items
split_more g old new state s tells keeps = subst (λ (n : ℕ). KeepsAlike g n new.blocks.items) (sym s.size) (split_keeps g old new state s tells keeps)

-- the part, where the loop has come to its end
pub run_is : {X : Type 0} (items : List Keyed) (first place end p : ℕ) → place ≡ end → X ⊎ InRun items first place p → X ⊎ InRun items first end p
run_is {X} items first place end p same h = subst (λ (k : ℕ). X ⊎ InRun items first k p) same h

-- blocks divided by one run
module _ (items : List Keyed) (first end : ℕ) (cur marked : Parts) (blocks : marked.blocks.items ≡ cur.blocks.items) (none : NoMarks cur)
    (only : (p : ℕ) → p < length cur.blocks.items → IsMarked marked p → IsMarked cur p ⊎ InRun items first end p) where
  pub run_unmarked : (p : ℕ) → p < length marked.blocks.items → IsMarked marked p → InRun items first end p
  run_unmarked p low mark = by (only p p_low mark)
    where
      p_low : p < length cur.blocks.items
      p_low = let same = ap length blocks in omega arith

      by : IsMarked cur p ⊎ InRun items first end p → InRun items first end p
      by (inl was) = absurd (none p p_low was)
      by (inr r) = r

pub run_alike : (g : Graph ℕ) (n : ℕ) (cur marked next : Parts) (items : List Keyed) (first end : ℕ) → length cur.blocks.items ≡ n → IsRun items first end → IsCut items first → NoMarks cur
    → marked.blocks.items ≡ cur.blocks.items → ((p : ℕ) → p < length cur.blocks.items → IsMarked marked p → IsMarked cur p ⊎ InRun items first end p) → ((p : ℕ) → InRun items first end p → IsMarked marked p)
    → length next.blocks.items ≡ length marked.blocks.items → TakesAlike g n items → KeepsAlike g (length cur.blocks.items) cur.blocks.items
    → (TellsMarked g marked → KeepsAlike g (length marked.blocks.items) marked.blocks.items → KeepsAlike g (length marked.blocks.items) next.blocks.items) → KeepsAlike g (length next.blocks.items) next.blocks.items
run_alike g n cur marked next items first end size run cut none blocks only all grown takes keeps splits =
    let takes_here : TakesAlike g (length cur.blocks.items) items = subst (λ (k : ℕ). TakesAlike g k items) (sym size) takes in
    let tells = run_tells items first end g cur marked cut run takes_here none (ap length blocks) only all in
    let keeps_marked : KeepsAlike g (length marked.blocks.items) marked.blocks.items = subst (λ (bs : List ℕ). KeepsAlike g (length bs) bs) (sym blocks) keeps in
    subst (λ (k : ℕ). KeepsAlike g k next.blocks.items) (sym grown) (splits tells keeps_marked)

-- each place was seen, with its number in the first list as head and its number in the second list as row
abbrev pub HasBoth : List ℕ → List ℕ → ℕ → List (ℕ × List ℕ) → Type 0
HasBoth first second done seen = (length seen ≡ done) × ((p : ℕ) → p < done → slice_get seen p ≡ Some (number_in first p, number_in second p ∷ []))

pub both_none : (first second : List ℕ) → HasBoth first second 0 []
both_none first second = (refl, λ p low. absurd (omega arith))

pub both_more : (first second : List ℕ) (done : ℕ) (seen : List (ℕ × List ℕ)) → HasBoth first second done seen → HasBoth first second (done + 1) (seen ++ (number_in first done, number_in second done ∷ []) ∷ [])
both_more first second done seen h = (let size = h.0 in let n = length-append seen ((number_in first done, number_in second done ∷ []) ∷ []) in omega arith, at)
  where
    new : ℕ × List ℕ
    new = (number_in first done, number_in second done ∷ [])

    at : (p : ℕ) → p < done + 1 → slice_get (seen ++ (number_in first done, number_in second done ∷ []) ∷ []) p ≡ Some (number_in first p, number_in second p ∷ [])
    at p low = by (cases_lt p done)
      where
        by : (p < done) ⊎ (done ≤ p) → slice_get (seen ++ (number_in first done, number_in second done ∷ []) ∷ []) p ≡ Some (number_in first p, number_in second p ∷ [])
        by (inl early) = at_append_left seen ((number_in first done, number_in second done ∷ []) ∷ []) p (number_in first p, number_in second p ∷ []) (h.1 p early)
        by (inr late) =
            let same : p ≡ done = omega arith in
            let last : p ≡ length seen = same ∙ sym h.0 in
            ap (slice_get (seen ++ (number_in first done, number_in second done ∷ []) ∷ [])) last ∙ (push_last seen (number_in first done, number_in second done ∷ []) ∙ ap (λ (k : ℕ). Some (number_in first k, number_in second k ∷ [])) (sym same))

pub both_tells : (first second numbers : List ℕ) (seen : List (ℕ × List ℕ)) → HasBoth first second (length first) seen → TellsApart seen numbers → IsBoth first second numbers
both_tells first second numbers seen h t = record { size = t.size ∙ h.0; same = same; other = other }
  where
    has : (p : ℕ) → p < length first → slice_get numbers p ≡ Some (number_in numbers p)
    has p low = let a = h.0 in let b = t.size in slice_get-get_or numbers p 0 (omega arith)

    same : (p q : ℕ) → p < length first → q < length first → number_in numbers p ≡ number_in numbers q → (number_in first p ≡ number_in first q) × (number_in second p ≡ number_in second q)
    same p q low less e =
        let pairs = same_Some (number_in first p, number_in second p ∷ []) (number_in first q, number_in second q ∷ []) (sym (h.1 p low) ∙ (t.same p q (number_in numbers p) (has p low) (has q less ∙ ap Some (sym e)) ∙ h.1 q less)) in
        let rows : number_in second p ∷ [] ≡ number_in second q ∷ [] = ap (λ (z : ℕ × List ℕ). z.1) pairs in
        (ap (λ (z : ℕ × List ℕ). z.0) pairs, cc)

    other : (p q : ℕ) → p < length first → q < length first → number_in first p ≡ number_in first q → number_in second p ≡ number_in second q → number_in numbers p ≡ number_in numbers q
    other p q low less one two = t.other p q (number_in numbers p) (number_in numbers q) (has p low) (has q less) (h.1 p low ∙ (ap₂ (λ k l. Some (k, l ∷ [])) one two ∙ sym (h.1 q less)))

-- what numbers of both lists keep
pub both_refined : (g : Graph ℕ) (n : ℕ) (first second numbers : List ℕ) → length first ≡ n → IsBoth first second numbers → KeepsAlike g n second → IsRefined g n (number_in first) → IsRefined g n (number_in numbers)
both_refined g n first second numbers size b keeps r = record {
  coarse = λ p q low less alike. b.other p q (omega arith) (omega arith) (r.coarse p q low less alike) (keeps p q low less alike);
  finals = λ p q low less e. r.finals p q low less (b.same p q (omega arith) (omega arith) e).0;
  letters = λ p q low less e. r.letters p q low less (b.same p q (omega arith) (omega arith) e).0;
}

-- the first blocks, and those that are divided further, with the count of states under another name
pub next_keeps : (g : Graph ℕ) (n m : ℕ) (blocks new : List ℕ) (items : List Keyed) → m ≡ n → (TakesAlike g m items → KeepsAlike g m blocks → KeepsAlike g m new) → TakesAlike g n items → KeepsAlike g n blocks → KeepsAlike g n new
next_keeps g n m blocks new items same divides takes keeps =
    subst (λ (j : ℕ). KeepsAlike g j new) same (divides (subst (λ (j : ℕ). TakesAlike g j items) (sym same) takes) (subst (λ (j : ℕ). KeepsAlike g j blocks) (sym same) keeps))

pub first_keeps : (g : Graph ℕ) (n m k : ℕ) (numbers blocks new : List ℕ) (items : List Keyed) → m ≡ n → k ≡ n → (KeepsAlike g k numbers → TakesAlike g k items) → (TakesAlike g m items → KeepsAlike g m blocks → KeepsAlike g m new)
    → ((p q : ℕ) → number_in blocks p ≡ number_in blocks q) → KeepsAlike g n numbers → KeepsAlike g n new
first_keeps g n m k numbers blocks new items same equal takes divides one keeps =
    let numbered : TakesAlike g n items = subst (λ (j : ℕ). TakesAlike g j items) equal (takes (subst (λ (j : ℕ). KeepsAlike g j numbers) (sym equal) keeps)) in
    next_keeps g n m blocks new items same divides numbered (λ p q low less alike. one p q)
