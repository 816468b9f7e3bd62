mod AnyFile
