use Rattle.std.proofs.Common.{rules, ◌≡◌, Ok, Err, map, ap, ◌∙◌, sym, refl}
use Rattle.addr_base.specs.declared.var.Var.{Var}
use Rattle.addr_locate.specs.Evaluated.{evaluated}
use Rattle.addr_script.specs.declared.command.Grammar.TheVariants.{Load as Live}
use Rattle.addr_live.specs.declared.order.Order.{Order}
use Rattle.addr_live.proofs.ReadLemmas.{prepared_err}
use Rattle.addr_live.proofs.reading.read_orders.Goals as goal

pub returns-in_err-orders : goal.returns-in_err-orders
returns-in_err-orders c =
    let e = c.in_err-orders.field-0.0 in
    prepared_err c.args.locator c.args.bytes.now e c.from_residual-in_err-orders.result c.from_residual-in_err-orders.ensures.1 (c.in_ok-head.ensures.begins Live (Err e) c.in_err-orders.ensures.bad)

pub returns : goal.returns
returns c =
    let head = c.in_ok-head.head in
    let commands = map (λ (o : Order). o.command) c.in_ok-orders.orders.items in (
      record { limit = head.limit; vars = head.vars; commands = commands },
      c.in_ok-head.ensures.begins Live (Ok commands) c.in_ok-orders.ensures.read,
      record {
        rows_are = c.in_ok-evaluate.ensures.ok ∙ ap (λ vars. evaluated vars c.args.locator) c.as_slice.ensures;
        limit_is = c.limit_of.ensures.is;
        limit_fits = c.limit_of.ensures.fits;
        commands_are = refl;
        orders_are = c.in_ok-orders.ensures.orders;
      },
    )
