-- Reading lines from the front.
use Rattle.std.proofs.Common.{◌≡◌, ℕ, ◌+◌, ◌-◌, List, [], ◌∷◌, ◌++◌, None, length, take, refl, sym, ap, ◌∙◌, arith}
use Rattle.arb_share.specs.Division.{ExactlyOne}
use Rattle.arb_share.proofs.FirstFault.{Faultless, IsReadTo, IsReadTo-front, IsReadTo-next, IsReadTo-fault, IsReading-ExactlyOne}
use Rattle.arb_script.specs.declared.fault.ScriptKind.{ScriptKind}
use Rattle.arb_script.specs.declared.given.ClientOrder.{ClientOrder}
use Rattle.arb_script.specs.Script.{Said, nothing, gives, wrong, fault_of, fault_at, orders_in, IsScript, IsFirstFault, StopsAt, Reads}

-- the first `done` lines are read into the orders, none was faulty, and these are left
pub record ReadsLines (lines left : List Said) (orders : List ClientOrder) (done : ℕ) : Type 0 where
  pub read : IsReadTo (fault_at lines) lines left done
  pub orders_read : orders ≡ orders_in (take done lines)

-- the orders of two parts, one after the other
orders_in-append : (xs ys : List Said) → orders_in (xs ++ ys) ≡ orders_in xs ++ orders_in ys
orders_in-append [] ys = refl
orders_in-append (nothing ∷ xs) ys = orders_in-append xs ys
orders_in-append (gives given ∷ xs) ys = ap (λ orders. given ∷ orders) (orders_in-append xs ys)
orders_in-append (wrong kind ∷ xs) ys = orders_in-append xs ys

-- a line that isn't faulty, with its order if it gives one
pub ReadsLines-next : (lines left after : List Said) (said : Said) (orders more : List ClientOrder) (done : ℕ) → ReadsLines lines left orders done → left ≡ said ∷ after → fault_of said ≡ None → more ≡ orders ++ orders_in (said ∷ []) → ReadsLines lines after more (done + 1)
ReadsLines-next lines left after said orders more done r e none is =
    let front = IsReadTo-front said nothing after r.read e in
    record {
      read = IsReadTo-next said after r.read e (ap fault_of front.0 ∙ none);
      orders_read = rw (is, r.orders_read, front.1) (sym (orders_in-append (take done lines) (said ∷ [])));
    }

-- a line that is faulty
pub ReadsLines-wrong : (lines left after : List Said) (orders : List ClientOrder) (done : ℕ) (kind : ScriptKind) → ReadsLines lines left orders done → left ≡ wrong kind ∷ after → IsFirstFault lines (record { line = done + 1; kind = kind })
ReadsLines-wrong lines left after orders done kind r e =
    IsReadTo-fault (wrong kind) after kind r.read e (ap fault_of (IsReadTo-front (wrong kind) nothing after r.read e).0)

-- a line whose order finds no room
pub ReadsLines-stops : (lines left after : List Said) (orders : List ClientOrder) (done : ℕ) (given : ClientOrder) → ReadsLines lines left orders done → left ≡ gives given ∷ after → StopsAt lines (done + 1)
ReadsLines-stops lines left after orders done given r e =
    let index : done + 1 - 1 ≡ done = omega arith in
    record {
      counted = omega arith;
      inside = (IsReadTo-next (gives given) after r.read e (ap fault_of (IsReadTo-front (gives given) nothing after r.read e).0)).so_far;
      given = given;
      is = rw index (IsReadTo-front (gives given) nothing after r.read e).0;
      first = λ before h. r.read.faultless before (omega arith);
    }

-- faultless lines are one script
IsScript-ExactlyOne : (lines : List Said) → Faultless (fault_at lines) (length lines) → ExactlyOne (IsScript lines)
IsScript-ExactlyOne lines none =
    record { answer = orders_in lines; is_answer = record { faultless = none; orders = refl }; only_answer = λ orders p. p.orders }

-- the lines of a text come to exactly one outcome
pub Reads-ExactlyOne : (lines : List Said) → ExactlyOne (Reads lines)
Reads-ExactlyOne lines =
    IsReading-ExactlyOne (fault_at lines) (length lines) (λ line kind. record { line = line; kind = kind }) (IsScript lines) (IsFirstFault lines) (record {
      faultless = λ orders p. p.faultless;
      answers = IsScript-ExactlyOne lines;
      faults = λ line kind f. f;
      first = λ fault f. (fault.line, fault.kind, f, refl);
    })
