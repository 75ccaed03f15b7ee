-- `gdi::stock_kind` meets its contract. Assumes nothing.
use borrow.Author.Tests.{ne_eqb}
use Rattle.gdi.specs.Stock.{stock_kind}
use Rattle.gdi.proofs.stock_kind.Goals as goal

pub returns-in-3735901953 : goal.returns-in-3735901953
unfolding stock_kind
returns-in-3735901953 c =
    rw c.in-3735901953.is

pub returns-in-3735901954 : goal.returns-in-3735901954
unfolding stock_kind
returns-in-3735901954 c =
    rw c.in-3735901954.is

pub returns-in-3735901955 : goal.returns-in-3735901955
unfolding stock_kind
returns-in-3735901955 c =
    rw c.in-3735901955.is

pub returns-in-3735901956 : goal.returns-in-3735901956
unfolding stock_kind
returns-in-3735901956 c =
    rw c.in-3735901956.is

pub returns-in-3735901957 : goal.returns-in-3735901957
unfolding stock_kind
returns-in-3735901957 c =
    rw c.in-3735901957.is

pub returns-in-3735901958 : goal.returns-in-3735901958
unfolding stock_kind
returns-in-3735901958 c =
    rw c.in-3735901958.is

pub returns-in-3735901959 : goal.returns-in-3735901959
unfolding stock_kind
returns-in-3735901959 c =
    rw c.in-3735901959.is

pub returns-in-3735901960 : goal.returns-in-3735901960
unfolding stock_kind
returns-in-3735901960 c =
    rw c.in-3735901960.is

pub returns-in-3735901961 : goal.returns-in-3735901961
unfolding stock_kind
returns-in-3735901961 c =
    rw c.in-3735901961.is

pub returns-in-3735901968 : goal.returns-in-3735901968
unfolding stock_kind
returns-in-3735901968 c =
    rw c.in-3735901968.is

pub returns-in-3735901984 : goal.returns-in-3735901984
unfolding stock_kind
returns-in-3735901984 c =
    rw c.in-3735901984.is

pub returns-in_default : goal.returns-in_default
unfolding stock_kind
returns-in_default c =
    let r = c.in_default.in_default-own.rest in
    let q = r.0.0.0.0.0 in
    simp (
      ne_eqb _ _ r.1,
      ne_eqb _ _ r.0.1,
      ne_eqb _ _ r.0.0.1,
      ne_eqb _ _ r.0.0.0.1,
      ne_eqb _ _ r.0.0.0.0.1,
      ne_eqb _ _ q.1,
      ne_eqb _ _ q.0.1,
      ne_eqb _ _ q.0.0.1,
      ne_eqb _ _ q.0.0.0.1,
      ne_eqb _ _ q.0.0.0.0.1,
      ne_eqb _ _ q.0.0.0.0.0.1,
    )
