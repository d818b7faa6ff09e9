-- The frames inside an attempt, as the top ones come and go.
use Rattle.std.proofs.{Common.{◌≡◌, suc, ◌-◌, ◌≤◌, List, [], ◌∷◌, length, take, drop, ap, arith}, lemmas.List.length-take}
use Rattle.machine_types.specs.{Elision.put_back, Structure.frames_inside, Threads.{Frame, Attempt}}

pub one_more : (a : Attempt) (f : Frame) (below : List Frame) → a.base ≤ length below → frames_inside a (f ∷ below) ≡ f ∷ frames_inside a below
one_more a f below l = let more : suc (length below) - a.base ≡ suc (length below - a.base) = omega (arith, l) in ap (λ n. take n (f ∷ below)) more

pub put_back_over : (a : Attempt) (f : Frame) (below : List Frame) → a.base ≤ length below → put_back a (f ∷ below) ≡ put_back a below
put_back_over a f below l = let more : suc (length below) - a.base ≡ suc (length below - a.base) = omega (arith, l) in ap (λ n. a.entry ∷ drop n (f ∷ below)) more

-- with only the frame of the entry inside
pub put_back_alone : (a : Attempt) (f : Frame) (below : List Frame) → a.base ≡ length below → put_back a (f ∷ below) ≡ a.entry ∷ below
put_back_alone a f below e = let more : suc (length below) - a.base ≡ 1 = omega (arith, e) in ap (λ n. a.entry ∷ drop n (f ∷ below)) more

-- where none is inside of the frames below, these are as many as at the entry
pub alone_inside : (a : Attempt) (below : List Frame) → a.base ≤ length below → frames_inside a below ≡ [] → a.base ≡ length below
alone_inside a below l e = let none : length (take (length below - a.base) below) ≡ 0 = ap (length {A = Frame}) e in omega (arith, l, none, length-take (length below - a.base) below)
