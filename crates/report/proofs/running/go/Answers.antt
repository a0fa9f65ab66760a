use Rattle.std.proofs.Common.{ℕ, refl, subst}
use Rattle.outside.specs.Acts.{IsRun, streams}
use Rattle.report.proofs.running.go.Goals as goal

pub returns : goal.returns
returns g c =
    let compiled = c.in_ok-compiled.compiled in
    let of_layers = c.in_ok-compiled.ensures in
    let of = λ (r : g.row.R.Denot) (w : g.row.W.Denot). streams (g.R.Feed.fed r) (g.W.Sink.got w) in
    let before = of c.args.reader.now c.args.writer.now in
    let after = of c.run_prepared-stop.new.reader c.run_prepared-stop.new.writer in
    record {
      runs = record {
        compiled = compiled;
        is_compiled = record {
          typed = of_layers.typed;
          serves = of_layers.certificate;
          valid = of_layers.checked;
          entered = of_layers.visits;
          stripped = of_layers.stripped;
          headline = of_layers.headline;
          full = record {
            instructions = of_layers.full;
            sites = of_layers.sites;
            points = of_layers.points;
            follows = of_layers.follows;
          };
        };
        verdict_is = refl;
        ran = subst (λ (n : ℕ). IsRun compiled.stripped n c.args.budget c.run_prepared-stop.result before after) c.in_ok-ready.ensures.cells_are
            (record { ran = c.run_prepared-stop.ensures.ran; failed = c.run_prepared-stop.ensures.write_failed });
      };
    }
