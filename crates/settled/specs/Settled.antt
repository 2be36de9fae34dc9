-- When a contract settles everything (document 01, "How tight the contracts must be"): "The statement settles answer and buffers for each input,
-- refused or not; that any two results meeting it are equal is itself proved". Assumes nothing.
use Rattle.std.specs.Prelude.{◌≡◌, List, ℕ}
use contract.Lifetimes.{Lfts}
use denote.Triple.Clauses.{Lasts, at_exit}
use borrow.Fn.Kinds.{ParamKind, ResultKind, Dens, res_t, ended_of, Out}

-- any two results that meet a contract are equal: x and y, what is returned, and v and w, what is left in everything lent. The contract of a function
-- with n lifetimes is what the checker reads out of its code: ps are its parameters, r its result, and Post says what the `ensures` clauses say
abbrev pub Settled : (n : ℕ) (ps : List (ParamKind n)) (r : ResultKind n) → Out n ps r → Type 0
Settled n ps r Post =
    (κs : Lfts n) (a : Dens κs ps) (x y : (res_t r κs).Denot) (v w : Lasts (ended_of n ps r) κs a)
    → Post κs a x (at_exit (ended_of n ps r) κs a v)
    → Post κs a y (at_exit (ended_of n ps r) κs a w)
    → (x ≡ y) × (v ≡ w)

-- what is returned is settled, if not what is left in everything lent: for the exceptions of docs/CONTRACTS.md
abbrev pub AnswerSettled : (n : ℕ) (ps : List (ParamKind n)) (r : ResultKind n) → Out n ps r → Type 0
AnswerSettled n ps r Post =
    (κs : Lfts n) (a : Dens κs ps) (x y : (res_t r κs).Denot) (v w : Lasts (ended_of n ps r) κs a)
    → Post κs a x (at_exit (ended_of n ps r) κs a v)
    → Post κs a y (at_exit (ended_of n ps r) κs a w)
    → x ≡ y
