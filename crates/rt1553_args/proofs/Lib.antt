mod NoFault
mod OfArgs
mod Values
