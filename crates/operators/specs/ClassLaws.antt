-- What holds of the claims of a class, and of classes served in turn. Assumes nothing.
use Rattle.std.specs.Prelude.{◌≡◌, ℕ, zero, suc, ◌+◌, ◌-◌, ◌*◌, ◌<◌, ◌≤◌, min, Bool, true, false, cond, List, [], ◌∷◌, length, ◌==◌, slice_index, slice_index_or, refl}
use Rattle.std.proofs.Common.{sym, ap, ◌∙◌, inl, inr, add-mul, one-mul, arith, ext_get_or}
use Rattle.std.proofs.lemmas.Bool.{cases_Bool, eqb-true}
use Rattle.division.specs.Amounts.{total, plus, nothing}
use Rattle.division.specs.AmountLaws.{Within, length-plus, slice_index-plus, total-plus, length-nothing, slice_index-nothing, total-nothing, total-within, same_amounts}
use Rattle.division.specs.Problem.{Sound, Divides, Meaning, Lawful}
use Rattle.operators.specs.Operators.{last_class, Classed, of_class, served, senior_first, junior_first}

-- the class of a place
abbrev pub class_at : List ℕ → ℕ → ℕ
class_at classes i = slice_index_or classes i last_class

pub length-of_class : (k : ℕ) (classes claims : List ℕ) → length (of_class k classes claims) ≡ length claims
length-of_class k classes [] = refl
length-of_class k [] (c ∷ cs) = ap suc (length-of_class k [] cs)
length-of_class k (j ∷ js) (c ∷ cs) = ap suc (length-of_class k js cs)

none_either : (b : Bool) → ◌≡◌ {A = ℕ} 0 (cond b 0 0)
none_either true = refl
none_either false = refl

-- a place of the class has its claim, and every other place has nothing
pub slice_index-of_class : (k : ℕ) (classes claims : List ℕ) (i : ℕ) → slice_index (of_class k classes claims) i ≡ cond (class_at classes i == k) (slice_index claims i) 0
slice_index-of_class k classes [] i = none_either (class_at classes i == k)
slice_index-of_class k [] (c ∷ cs) zero = refl
slice_index-of_class k [] (c ∷ cs) (suc i) = slice_index-of_class k [] cs i
slice_index-of_class k (j ∷ js) (c ∷ cs) zero = refl
slice_index-of_class k (j ∷ js) (c ∷ cs) (suc i) = slice_index-of_class k js cs i

pub of_class_within : (k : ℕ) (classes claims : List ℕ) → Within (of_class k classes claims) claims
of_class_within k classes claims i =
    let at = slice_index-of_class k classes claims i in
    elim (class_at classes i == k) as (λ b. slice_index (of_class k classes claims) i ≡ cond b (slice_index claims i) 0 → slice_index (of_class k classes claims) i ≤ slice_index claims i) [ true ↦ λ e. omega arith | false ↦ λ e. omega arith ] at

pub total-of_class : (k : ℕ) (classes claims : List ℕ) → total (of_class k classes claims) ≤ total claims
total-of_class k classes claims = total-within (of_class k classes claims) claims (of_class_within k classes claims)

-- a place outside the class has nothing
pub not_of_class : (k : ℕ) (classes claims : List ℕ) (i : ℕ) → (class_at classes i == k) ≡ false → slice_index (of_class k classes claims) i ≡ 0
not_of_class k classes claims i e = rw e at (slice_index-of_class k classes claims i)

-- a place of the class has its claim
pub is_of_class : (k : ℕ) (classes claims : List ℕ) (i : ℕ) → (class_at classes i == k) ≡ true → slice_index (of_class k classes claims) i ≡ slice_index claims i
is_of_class k classes claims i e = rw e at (slice_index-of_class k classes claims i)

-- what a class gets of what is left: all that it claims, or all that is left
abbrev pub class_share : ℕ → List ℕ → List ℕ → ℕ → ℕ
class_share k classes claims left = min (total (of_class k classes claims)) left

-- the problem of one class: its claims, and the smaller of what they add up to and what is left
pub class_sound : (k : ℕ) (classes claims : List ℕ) (estate : ℕ) → Sound claims estate → (left : ℕ) → Sound (of_class k classes claims) (class_share k classes claims left)
class_sound k classes claims estate s left = record {
  few = omega (arith, length-of_class k classes claims, s.few);
  small = omega (arith, total-of_class k classes claims, s.small);
  covered = omega arith;
}

-- how often a class stands in an order
abbrev pub times_in : ℕ → List ℕ → ℕ
times_in k [] = 0
times_in k (j ∷ order) = cond (k == j) 1 0 + times_in k order

-- an order that serves each class once
abbrev pub EachOnce : List ℕ → Type 0
EachOnce order = (k : ℕ) → 1 ≤ k → k ≤ last_class → times_in k order ≡ 1

-- the claims of all classes of an order
abbrev pub of_order : List ℕ → List ℕ → List ℕ → List ℕ
of_order [] classes claims = nothing claims
of_order (k ∷ order) classes claims = plus (of_class k classes claims) (of_order order classes claims)

pub length-of_order : (order classes claims : List ℕ) → length (of_order order classes claims) ≡ length claims
length-of_order [] classes claims = length-nothing claims
length-of_order (k ∷ order) classes claims =
    let mine = length-of_class k classes claims in
    let others = length-of_order order classes claims in
    length-plus (of_class k classes claims) (of_order order classes claims) (omega arith) ∙ mine

pub slice_index-of_order : (order classes claims : List ℕ) (i : ℕ) → slice_index (of_order order classes claims) i ≡ times_in (class_at classes i) order * slice_index claims i
slice_index-of_order [] classes claims i = omega (arith, slice_index-nothing claims i)
slice_index-of_order (k ∷ order) classes claims i =
    let both = slice_index-plus (of_class k classes claims) (of_order order classes claims) i in
    let mine = slice_index-of_class k classes claims i in
    let others = slice_index-of_order order classes claims i in
    elim (class_at classes i == k) as (λ b. slice_index (of_class k classes claims) i ≡ cond b (slice_index claims i) 0 → slice_index (of_order (k ∷ order) classes claims) i ≡ (cond b 1 0 + times_in (class_at classes i) order) * slice_index claims i) [ true ↦ λ e. omega (arith, add-mul 1 (times_in (class_at classes i) order) (slice_index claims i)) | false ↦ λ e. omega (arith, add-mul 0 (times_in (class_at classes i) order) (slice_index claims i)) ] mine

-- an order that serves each class once leaves no claim out, and counts none twice
pub of_whole_order : (order classes claims : List ℕ) → EachOnce order → Classed classes → of_order order classes claims ≡ claims
of_whole_order order classes claims once classed =
    same_amounts (of_order order classes claims) claims (length-of_order order classes claims) (λ i.
    let one : times_in (class_at classes i) order ≡ 1 = once (class_at classes i) (classed i).0 (classed i).1 in
    slice_index-of_order order classes claims i ∙ ap (λ n. n * slice_index claims i) one ∙ one-mul (slice_index claims i))

pub length-served : (order classes : List ℕ) (f : Meaning) → Lawful f → (claims : List ℕ) (estate : ℕ) → Sound claims estate → (left : ℕ) → length (served order classes f claims left) ≡ length claims
length-served [] classes f law claims estate s left = length-nothing claims
length-served (k ∷ order) classes f law claims estate s left =
    let mine = of_class k classes claims in
    let share = class_share k classes claims left in
    let first : length (f mine share) ≡ length claims = (law mine share (class_sound k classes claims estate s left)).as_long ∙ length-of_class k classes claims in
    let then = length-served order classes f law claims estate s (left - share) in
    length-plus (f mine share) (served order classes f claims (left - share)) (omega arith) ∙ first

-- the classes of an order, served in turn, share what is left among their claims
pub served_divides : (order classes : List ℕ) (f : Meaning) → Lawful f → (claims : List ℕ) (estate : ℕ) → Sound claims estate → (left : ℕ) → left ≤ total (of_order order classes claims) → Divides (of_order order classes claims) left (served order classes f claims left)
served_divides [] classes f law claims estate s left fits = record {
  as_long = refl;
  bounded = λ i. omega arith;
  spent = omega (arith, total-nothing claims);
}
served_divides (k ∷ order) classes f law claims estate s left fits =
    let mine = of_class k classes claims in
    let others = of_order order classes claims in
    let share = min (total mine) left in
    let ours = f mine share in
    let theirs = served order classes f claims (left - share) in
    let first = law mine share (class_sound k classes claims estate s left) in
    let both = total-plus mine others in
    let then = served_divides order classes f law claims estate s (left - share) (omega (arith, both, fits)) in
    let long_mine = length-of_class k classes claims in
    let long_others = length-of_order order classes claims in
    let alike : length ours ≡ length theirs = omega (arith, first.as_long, then.as_long) in
    record {
      as_long = omega (arith, length-plus ours theirs alike, length-of_order (k ∷ order) classes claims, first.as_long);
      bounded = λ i. omega (arith, slice_index-plus ours theirs i, slice_index-plus mine others i, first.bounded i, then.bounded i);
      spent = omega (arith, total-plus ours theirs, first.spent, then.spent);
    }

-- each class's share: the smaller of what it claims and what the classes before it left
abbrev pub share_of : ℕ → List ℕ → List ℕ → List ℕ → ℕ → ℕ
share_of k [] classes claims left = 0
share_of k (j ∷ order) classes claims left =
    let share = class_share j classes claims left in
    cond (k == j) share (share_of k order classes claims (left - share))

-- a class's own problem gives nothing to a place outside the class
pub outside_class : (k : ℕ) (classes : List ℕ) (f : Meaning) → Lawful f → (claims : List ℕ) (estate : ℕ) → Sound claims estate → (left i : ℕ) → (class_at classes i == k) ≡ false → slice_index (f (of_class k classes claims) (min (total (of_class k classes claims)) left)) i ≡ 0
outside_class k classes f law claims estate s left i e =
    let mine = of_class k classes claims in
    let first = law mine (min (total mine) left) (class_sound k classes claims estate s left) in
    omega (arith, first.bounded i, not_of_class k classes claims i e)

-- a place whose class an order leaves out gets nothing
pub place_left_out : (order classes : List ℕ) (f : Meaning) → Lawful f → (claims : List ℕ) (estate : ℕ) → Sound claims estate → (left i : ℕ) → times_in (class_at classes i) order ≡ 0 → slice_index (served order classes f claims left) i ≡ 0
place_left_out [] classes f law claims estate s left i absent = slice_index-nothing claims i
place_left_out (k ∷ order) classes f law claims estate s left i absent =
    let share = min (total (of_class k classes claims)) left in
    let both = slice_index-plus (f (of_class k classes claims) share) (served order classes f claims (left - share)) i in
    elim (cases_Bool (class_at classes i == k)) [
      | inl e ↦ absurd (omega (arith, rw e at absent))
      | inr e ↦
          let others : times_in (class_at classes i) order ≡ 0 = omega (arith, rw e at absent) in
          omega (arith, both, outside_class k classes f law claims estate s left i e, place_left_out order classes f law claims estate s (left - share) i others)
    ]

-- the place view: what a place gets is what the rule gives it of its class's share, over the claims of its class
pub place_served : (order classes : List ℕ) (f : Meaning) → Lawful f → (claims : List ℕ) (estate : ℕ) → Sound claims estate → (left i : ℕ) → times_in (class_at classes i) order ≡ 1 → slice_index (served order classes f claims left) i ≡ slice_index (f (of_class (class_at classes i) classes claims) (share_of (class_at classes i) order classes claims left)) i
place_served [] classes f law claims estate s left i once = absurd (omega arith)
place_served (k ∷ order) classes f law claims estate s left i once =
    let own = class_at classes i in
    let share = min (total (of_class k classes claims)) left in
    let both = slice_index-plus (f (of_class k classes claims) share) (served order classes f claims (left - share)) i in
    elim (cases_Bool (own == k)) [
      | inl e ↦
          let others : times_in own order ≡ 0 = omega (arith, rw e at once) in
          let none = place_left_out order classes f law claims estate s (left - share) i others in
          let same : f (of_class k classes claims) share ≡ f (of_class own classes claims) share = ap (λ j. f (of_class j classes claims) share) (sym (eqb-true own k e)) in
          rw e (omega (arith, both, none, ap (λ xs. slice_index xs i) same))
      | inr e ↦
          let others : times_in own order ≡ 1 = omega (arith, rw e at once) in
          let none = outside_class k classes f law claims estate s left i e in
          rw e (omega (arith, both, none, place_served order classes f law claims estate s (left - share) i others))
    ]

-- the place view of a whole order
pub place_view : (order classes : List ℕ) → EachOnce order → Classed classes → (f : Meaning) → Lawful f → (claims : List ℕ) (estate : ℕ) → Sound claims estate → (i : ℕ) → slice_index (served order classes f claims estate) i ≡ slice_index (f (of_class (class_at classes i) classes claims) (share_of (class_at classes i) order classes claims estate)) i
place_view order classes once classed f law claims estate s i = place_served order classes f law claims estate s estate i (once (class_at classes i) (classed i).0 (classed i).1)

-- a share never passes what its class claims
pub share_within : (k : ℕ) (order classes claims : List ℕ) (left : ℕ) → share_of k order classes claims left ≤ total (of_class k classes claims)
share_within k [] classes claims left = omega arith
share_within k (j ∷ order) classes claims left =
    let share = min (total (of_class j classes claims)) left in
    elim (cases_Bool (k == j)) [
      | inl e ↦
          let same : total (of_class j classes claims) ≡ total (of_class k classes claims) = ap (λ n. total (of_class n classes claims)) (sym (eqb-true k j e)) in
          rw e (omega (arith, same))
      | inr e ↦ rw e (share_within k order classes claims (left - share))
    ]

-- the problem of one class within an order
pub share_sound : (k : ℕ) (order classes claims : List ℕ) (estate : ℕ) → Sound claims estate → (left : ℕ) → Sound (of_class k classes claims) (share_of k order classes claims left)
share_sound k order classes claims estate s left = record {
  few = omega (arith, length-of_class k classes claims, s.few);
  small = omega (arith, total-of_class k classes claims, s.small);
  covered = share_within k order classes claims left;
}

-- what holds of each of the eight classes
pub each_class : (P : ℕ → Type 0) → P 1 → P 2 → P 3 → P 4 → P 5 → P 6 → P 7 → P 8 → (k : ℕ) → 1 ≤ k → k ≤ last_class → P k
each_class P p q r s t u v w zero low high = absurd (omega arith)
each_class P p q r s t u v w (suc zero) low high = p
each_class P p q r s t u v w (suc (suc zero)) low high = q
each_class P p q r s t u v w (suc (suc (suc zero))) low high = r
each_class P p q r s t u v w (suc (suc (suc (suc zero)))) low high = s
each_class P p q r s t u v w (suc (suc (suc (suc (suc zero))))) low high = t
each_class P p q r s t u v w (suc (suc (suc (suc (suc (suc zero)))))) low high = u
each_class P p q r s t u v w (suc (suc (suc (suc (suc (suc (suc zero))))))) low high = v
each_class P p q r s t u v w (suc (suc (suc (suc (suc (suc (suc (suc zero)))))))) low high = w
each_class P p q r s t u v w (suc (suc (suc (suc (suc (suc (suc (suc (suc n))))))))) low high = absurd (omega arith)

pub senior_once : EachOnce senior_first
senior_once = each_class (λ k. times_in k senior_first ≡ 1) refl refl refl refl refl refl refl refl

pub junior_once : EachOnce junior_first
junior_once = each_class (λ k. times_in k junior_first ≡ 1) refl refl refl refl refl refl refl refl

-- two class lists that agree at the places of the claims put the same claims into each class
pub of_class_alike : (k : ℕ) (classes others claims : List ℕ) → ((i : ℕ) → i < length claims → class_at classes i ≡ class_at others i) → of_class k classes claims ≡ of_class k others claims
of_class_alike k classes others claims alike =
    ext_get_or 0 (of_class k classes claims) (of_class k others claims) (length-of_class k classes claims ∙ sym (length-of_class k others claims)) (λ i within.
    let short : i < length claims = omega (arith, length-of_class k classes claims) in
    slice_index-of_class k classes claims i ∙ ap (λ j. cond (j == k) (slice_index claims i) 0) (alike i short) ∙ sym (slice_index-of_class k others claims i))

-- and so they serve the same
pub served_alike : (order classes others : List ℕ) (f : Meaning) (claims : List ℕ) (left : ℕ) → ((i : ℕ) → i < length claims → class_at classes i ≡ class_at others i) → served order classes f claims left ≡ served order others f claims left
served_alike [] classes others f claims left alike = refl
served_alike (k ∷ order) classes others f claims left alike =
    let share = min (total (of_class k others claims)) left in
    rw (of_class_alike k classes others claims alike) (ap (λ xs. plus (f (of_class k others claims) share) xs) (served_alike order classes others f claims (left - share) alike))
