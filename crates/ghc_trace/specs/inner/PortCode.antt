-- Ports as the code has them.
use Rattle.ghc_trace.specs.Ports as ports
use Rattle.ghc_trace.specs.declared.port.Port.{Port}
use Rattle.ghc_trace.specs.declared.port.Port.TheVariants.{Reduced, Called, Resumed}

-- the port that is meant
abbrev pub port_of : Port → ports.Port
port_of (Reduced s) = ports.reduced s
port_of (Called g b) = ports.called g b
port_of (Resumed g) = ports.resumed g
