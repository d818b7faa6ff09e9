-- Records that stand in a history, and stay where it goes on.
use Rattle.std.proofs.Common.{◌≡◌, ℕ, zero, suc, ◌+◌, ◌<◌, ◌≤◌, List, [], ◌∷◌, ◌++◌, length, length-append, Bool, true, false, Option, Some, None, refl, sym, ap, subst, ◌∙◌, arith, slice_get, IfSome, if◌then◌else◌, nat_lt}
use Rattle.std.proofs.lemmas.Option.{slice_get_within}
use Rattle.solero_cell.specs.{CellViews.{newest, record_of}, Histories.{History, last_count, RecordStands, AllStand, IsLast, IsRecordSeen, OwnStand}, declared.views.{Record.Record, View.View}}

pub got_longer : {A : Type 0} (xs ys : List A) (i : ℕ) (x : A) → slice_get xs i ≡ Some x → slice_get (xs ++ ys) i ≡ Some x
got_longer [] ys i x e = let bad : None ≡ Some x = e in absurd (cc)
got_longer (z ∷ zs) ys zero x e = e
got_longer (z ∷ zs) ys (suc i) x e = got_longer zs ys i x e

pub got_last : {A : Type 0} (xs : List A) (x : A) → slice_get (xs ++ x ∷ []) (length xs) ≡ Some x
got_last [] x = refl
got_last (y ∷ ys) x = got_last ys x

pub at_most_last : (o : Record) (h : History) (r : Record) → RecordStands o h r → r.count ≤ last_count o h
at_most_last o h r s = let lt : s.place < suc (length h) = slice_get_within (o.values ∷ h) s.place r.values s.values in let c = s.count in omega arith

pub last_stands : (o : Record) (h : History) (r : Record) → IsLast o h r → RecordStands o h r
last_stands o h r l = record { place = length h; count = l.count; values = l.values }

-- a view whose opening it is has seen a record that ends the history
pub is_seen : (o : Record) (h : History) (v : View) (r : Record) → v.opening ≡ o → OwnStand o h v → IsLast o h r → IsRecordSeen v r
is_seen o h v r is own last = record { history = h; own = subst (λ q. OwnStand q h v) (sym is) own; last = subst (λ q. IsLast q h r) (sym is) last }

pub opening_stands : (o : Record) → RecordStands o [] o
opening_stands o = record { place = 0; count = omega arith; values = refl }

-- ---- one write more

pub stands_on : (o : Record) (h : History) (xs : List ℕ) (r : Record) → RecordStands o h r → RecordStands o (h ++ xs ∷ []) r
stands_on o h xs r s = record { place = s.place; count = s.count; values = got_longer (o.values ∷ h) (xs ∷ []) s.place r.values s.values }

pub all_on : (o : Record) (h : History) (xs : List ℕ) (rs : List Record) → AllStand o h rs → AllStand o (h ++ xs ∷ []) rs
all_on o h xs [] s = tt
all_on o h xs (r ∷ rs) s = (stands_on o h xs r s.0, all_on o h xs rs s.1)

pub own_on : (o : Record) (h : History) (xs : List ℕ) (v : View) → OwnStand o h v → OwnStand o (h ++ xs ∷ []) v
own_on o h xs v s = record { writes = all_on o h xs v.writes s.writes; latest = stands_on o h xs v.latest s.latest }

pub joining_on : (o : Record) (h : History) (xs : List ℕ) (p : Option Record) → IfSome p (RecordStands o h) → IfSome p (RecordStands o (h ++ xs ∷ []))
joining_on o h xs None s = tt
joining_on o h xs (Some r) s = stands_on o h xs r s

pub new_last : (o : Record) (h : History) (xs : List ℕ) (c : ℕ) → c ≡ last_count o h → IsLast o (h ++ xs ∷ []) (record_of (c + 1) xs)
new_last o h xs c e =
    let long = length-append h (xs ∷ []) in
    let n : length (h ++ xs ∷ []) ≡ suc (length h) = omega (arith, long) in
    record {
      count = omega (arith, n, e);
      values = ap (slice_get (o.values ∷ (h ++ xs ∷ []))) n ∙ got_last (o.values ∷ h) xs;
    }

-- ---- lists of records

pub all_both : (o : Record) (h : History) (rs qs : List Record) → AllStand o h rs → AllStand o h qs → AllStand o h (rs ++ qs)
all_both o h [] qs s t = t
all_both o h (r ∷ rs) qs s t = (s.0, all_both o h rs qs s.1 t)

pub all_left : (o : Record) (h : History) (rs qs : List Record) → AllStand o h (rs ++ qs) → AllStand o h rs
all_left o h [] qs s = tt
all_left o h (r ∷ rs) qs s = (s.0, all_left o h rs qs s.1)

pub all_right : (o : Record) (h : History) (rs qs : List Record) → AllStand o h (rs ++ qs) → AllStand o h qs
all_right o h [] qs s = s
all_right o h (r ∷ rs) qs s = all_right o h rs qs s.1

newest_by : (o : Record) (h : History) (r q : Record) (b : Bool) → RecordStands o h r → RecordStands o h q → RecordStands o h (if b then q else r)
newest_by o h r q true s t = t
newest_by o h r q false s t = s

pub newest_stands : (o : Record) (h : History) (r q : Record) → RecordStands o h r → RecordStands o h q → RecordStands o h (newest r q)
newest_stands o h r q s t = newest_by o h r q (nat_lt r.count q.count) s t
