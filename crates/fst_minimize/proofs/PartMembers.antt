-- States in blocks: the members of a block are the states in the places of its span.
use Rattle.std.proofs.Common.{◌≡◌, ℕ, ◌+◌, ◌-◌, ◌<◌, ◌≤◌, List, Some, drop, get_or, length, take, sym, ap, ◌∙◌, subst, arith}
use Rattle.std.proofs.lemmas.List.{get_or_read, get_or-drop, get_or-take, length-drop, length-take}
use Rattle.std.proofs.lemmas.Option.{get_or_from_slice_get, slice_get-get_or}
use Rattle.fst_machine.specs.BreadthFirst.{Has}
use Rattle.fst_machine.proofs.Elements.{at_Has, Has_at}
use Rattle.fst_minimize.specs.Numbered.{number_in}
use Rattle.fst_minimize.specs.Spans.{IsParts, span_of}
use Rattle.fst_minimize.specs.declared.parts.Span.{Span}

module _ (members places blocks : List ℕ) (spans : List Span) (b : ℕ) (span : Span) (w : IsParts members places blocks spans) (low : b < length spans) (read : span ≡ get_or spans b span) where
  is : span ≡ span_of spans b
  is = get_or_read spans b span low read (record { first = 0; mid = 0; end = 0 })

  abbrev part : List ℕ
  part = take (span.end - span.first) (drop span.first members)

  order : span.first ≤ span.end
  order = subst (λ (s : Span). s.first ≤ s.end) (sym is) (let f = w.from b low in let t = w.to b low in omega arith)

  end : span.end ≤ length members
  end = subst (λ (s : Span). s.end ≤ length members) (sym is) (let e = w.end b low in let s = w.size in omega arith)

  size : length part ≡ span.end - span.first
  size = let x = length-take (span.end - span.first) (drop span.first members) in let y = length-drop span.first members in let z = end in omega arith

  at : (k : ℕ) → k < span.end - span.first → get_or part k 0 ≡ get_or members (span.first + k) 0
  at k h = get_or-take (span.end - span.first) (drop span.first members) k 0 h ∙ get_or-drop span.first members k 0

  has_number : (p : ℕ) → Has part p → (p < length blocks) × (number_in blocks p ≡ b)
  has_number p has =
      let found = Has_at part p has in
      let k = found.0 in
      let low_k : k < span.end - span.first = let l = found.2 in let s = size in omega arith in
      let here : p ≡ get_or members (span.first + k) 0 = sym (get_or_from_slice_get part k p 0 found.1) ∙ at k low_k in
      let below : span.first + k < length blocks = let e = end in let s = w.size in omega arith in (
        subst (λ (q : ℕ). q < length blocks) (sym here) (w.state (span.first + k) below),
        ap (number_in blocks) here ∙ subst (λ (s : Span). s.first ≤ span.first + k → span.first + k < s.end → number_in blocks (get_or members (span.first + k) 0) ≡ b) (sym is) (w.own b (span.first + k) low) (omega arith) (omega arith),
      )

  number_has : (p : ℕ) → p < length blocks → number_in blocks p ≡ b → Has part p
  number_has p h e =
      let i = get_or places p 0 in
      let s : span_of spans (number_in blocks p) ≡ span = ap (span_of spans) e ∙ sym is in
      let f : span.first ≤ i = subst (λ (t : Span). t.first ≤ i) s (w.behind p h) in
      let l : i < span.end = subst (λ (t : Span). i < t.end) s (w.before p h) in
      let k = i - span.first in
      let back : span.first + k ≡ i = omega arith in
      let low_k : k < span.end - span.first = omega arith in
      let here : get_or part k 0 ≡ p = at k low_k ∙ (ap (λ (j : ℕ). get_or members j 0) back ∙ w.member p h) in
      at_Has part k p (slice_get-get_or part k 0 (let z = size in omega arith) ∙ ap Some here)

  pub put_has : (out : List ℕ) → out ≡ part → (p : ℕ) → (Has out p → (p < length blocks) × (number_in blocks p ≡ b)) × (p < length blocks → number_in blocks p ≡ b → Has out p)
  put_has out e p = ((λ has. has_number p (subst (λ (xs : List ℕ). Has xs p) e has)), λ h n. subst (λ (xs : List ℕ). Has xs p) (sym e) (number_has p h n))
