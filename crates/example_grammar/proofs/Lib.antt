mod NamedTypes
